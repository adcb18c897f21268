-- `denoise::tracing::fill`: each turn writes the dual of a minute.
use native.Mathlib.Omega.{arith}
use native.Mathlib.Numerals.{add-one}
use mathlib.Core.Path.{◌≡◌, sym, ap, ap₂, ◌∙◌}
use Prim.Native.Nat.{◌+◌, ◌-◌, ◌<◌}
use lib.ListN.{length, get_or, take, drop}
use lib.Seq.{sets}
use lib.IntN.{pos, nat_abs, ◌+ℤ◌, ◌*ℤ◌, ◌-ℤ◌}
use mir.Syntax.{w32, w64}
use mir.Val.{SFits, to_z, of_z}
use mir.Facts.{to_z-of_z}
use Rattle.std.proofs.Common.{rules}
use Rattle.integers.specs.Order.{abs-*}
use Rattle.integers.specs.Sums.{sum_z}
use Rattle.integers.specs.Bounds.{cleaning, fit, clean, mul-both}
use Rattle.optimality.specs.Series.{plain}
use Rattle.denoise.specs.Dual.{duals_inside}
use Rattle.denoise.specs.Walk.{as_segment}
use Rattle.denoise.specs.Trace.{next_of}
use Rattle.denoise.proofs.FillLoop.{filling_first, filling_turn, steady, sum-end, filled, above_abs}
use Rattle.denoise.proofs.tracing.fill.Goals as goal

pub loop-k-init : goal.loop-k-init
loop-k-init c =
    let n = c.args.p.n in
    let u = c.args.m.u in
    let D = c.requires.fills.dual in
    let P = c.requires.fills.small in
    let v : to_z w64 (of_z w64 (to_z w64 (of_z w64 n) *ℤ to_z w64 (of_z w64 u))) ≡ n *ℤ u = clean (search cleaning depth 12) tt in
    let e : to_z w64 (of_z w64 u) ≡ u = clean (search cleaning depth 12) tt in
    rw (v, e) (filling_first _ _ _ _ _ _ (omega arith) (omega (arith, abs-* n u, mul-both (nat_abs n) 65536 (nat_abs u) 1099511627776 P.divisor.upto D.upto)) D.upto)

pub minute-d-requires-clause-small_dual : goal.minute-d-requires-clause-small_dual
minute-d-requires-clause-small_dual c = steady _ _ _ _ _ _ c.loop-k.invariant (omega (arith, c.requires.fills.upto, c.requires.fills.minutes))

pub loop-k-preserved : goal.loop-k-preserved
loop-k-preserved c =
    let F = c.requires.fills in
    let k = c.loop-k.k in
    let p = c.args.p in
    let y = get_or c.args.samples.now k (pos 0) in
    let h : k < length c.args.samples.now = omega (arith, c.loop-k-test.true, F.upto) in
    let Y = F.samples k h in
    let f : SFits w32 y = search rules in
    let g : SFits w64 c.minute-d.result.v = search rules in
    let e = c.minute-d.ensures ∙ ap (λ y. next_of y p c.loop-k.d) (to_z-of_z f) in
    rw (to_z-of_z g, e, add-one k) (filling_turn _ _ _ _ _ _ c.loop-k.invariant c.loop-k-test.true F.upto Y F.above F.small)

pub overflow_sub-result : goal.overflow_sub-result
overflow_sub-result c =
    let D = steady _ _ _ _ _ _ c.loop-k.invariant (omega (arith, c.requires.fills.upto, c.requires.fills.minutes)) in
    let P = c.requires.fills.small in
    fit (search cleaning depth 12) tt

pub returns-clause-answer : goal.returns-clause-answer
returns-clause-answer c =
    let F = c.requires.fills in
    let i = c.args.m.i in
    let u = c.args.m.u in
    let p = c.args.p in
    let rest = drop i c.args.samples.now in
    let D = steady _ _ _ _ _ _ c.loop-k.invariant (omega (arith, F.upto, F.minutes)) in
    let P = F.small in
    let len : i + p.len - i ≡ p.len = omega arith in
    let read : to_z w64 (of_z w64 (to_z w64 (of_z w64 c.loop-k.d.u) -ℤ to_z w64 (of_z w64 p.total))) ≡ c.loop-k.d.u -ℤ p.total = clean (search cleaning depth 12) tt in
    let v = read ∙ ap (λ u. u -ℤ p.total) (sum-end _ _ _ _ _ _ c.loop-k.invariant c.loop-k-test.false ∙ ap (λ n. u +ℤ sum_z (take n rest)) len) in
    λ t. record { i = i + p.len; u = v t }

pub returns-clause-out : goal.returns-clause-out
returns-clause-out c =
    let i = c.args.m.i in
    let u = c.args.m.u in
    let p = c.args.p in
    let rest = drop i c.args.samples.now in
    let len : i + p.len - i ≡ p.len = omega arith in
    filled _ _ _ _ _ _ c.loop-k.invariant c.loop-k-test.false
    ∙ ap₂ (λ v n. sets c.args.out.now i (duals_inside (as_segment p) v (plain (take n rest)))) (ap (λ n. n *ℤ u) (sym (above_abs p.n c.requires.fills.above))) len
