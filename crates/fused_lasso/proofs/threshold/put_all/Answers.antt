-- `fused_lasso::threshold::put_all`: the next of the segments.
use mathlib.Core.Path.{◌≡◌, ◌∙◌, ap, ap₂}
use mathlib.Core.List.{List, [], ◌∷◌, ◌++◌}
use native.Mathlib.Omega.{arith}
use native.Mathlib.Numerals.{add-one}
use Prim.Native.Nat.{ℕ, suc}
use lib.ListN.{length, get_or, length-append}
use lib.Seq.{take-length, take_all}
use lib.IntN.{ℤ, pos}
use mir.Facts.{to_z-of_z}
use mir.Syntax.{w64}
use mir.Val.{SFits}
use Rattle.std.proofs.Common.{rules}
use Rattle.std.proofs.lemmas.Slice.Zip.{zip_turn, zip_end}
use Rattle.optimality.specs.PlainSeries.{segments}
use Rattle.fused_lasso.specs.Threshold.{written, put_of}
use Rattle.fused_lasso.proofs.ThresholdLoop.{thresholding_first, next-takes, next-turn, no_next}
use Rattle.fused_lasso.proofs.threshold.put_all.Goals as goal

-- all of two lists
all : (ns : List ℕ) (ts : List ℤ) → length ns ≡ length ts → written (length ns) ns ts ≡ segments ns ts
all ns ts e = ap₂ segments (take-length ns) (take_all (length ns) ts (omega (arith, e)))

pub loop-len-init : goal.loop-len-init
loop-len-init c =
    let a = c.args in
    let e = all a.lens.now a.sums.now c.requires.same_length in
    thresholding_first _ _ _ _ _ _ (ap (put_of a.floor a.lengths.now a.totals.now a.m) e) (rw e c.requires.takes)

pub put-n-requires-clause-takes : goal.put-n-requires-clause-takes
put-n-requires-clause-takes c =
    let a = c.args in
    let l = c.loop-len in
    let t = zip_turn a.lens.now a.sums.now l.yielded _ l.len-iterator c.next.new.self _ (cc) (cc) l.yielded_by _ c.in-Some.is c.next.ensures.steps in
    let f : SFits w64 (get_or a.sums.now (length l.yielded) (pos 0)) = search rules in
    rw (t.2 0, t.3 (pos 0), to_z-of_z f) (next-takes a.lens.now a.sums.now _ _ l.invariant t.0 (omega arith) (omega (arith, c.requires.same_length)))

pub loop-len-preserved : goal.loop-len-preserved
loop-len-preserved c =
    let a = c.args in
    let l = c.loop-len in
    let e = c.put-n.ensures in
    let t = zip_turn a.lens.now a.sums.now l.yielded _ l.len-iterator c.next.new.self _ (cc) (cc) l.yielded_by _ c.in-Some.is c.next.ensures.steps in
    let f : SFits w64 (get_or a.sums.now (length l.yielded) (pos 0)) = search rules in
    let n : length (l.yielded ++ (c.in-Some.field-0-0, c.in-Some.field-0-1) ∷ []) ≡ suc (length l.yielded) = length-append l.yielded _ ∙ add-one _ in
    rw n
    (next-turn a.lens.now a.sums.now _ _ l.invariant t.0 (omega arith) (omega (arith, c.requires.same_length))
    (rw (t.2 0, t.3 (pos 0), to_z-of_z f) at e.answer, (rw (t.2 0, t.3 (pos 0), to_z-of_z f) at e.lengths, rw (t.2 0, t.3 (pos 0), to_z-of_z f) at e.totals)))

pub returns : goal.returns
returns c =
    let a = c.args in
    let l = c.loop-len in
    let n = zip_end a.lens.now a.sums.now l.yielded _ l.len-iterator c.next.new.self _ (cc) (cc) l.yielded_by c.in-None.is c.next.ensures.steps in
    let p = no_next a.lens.now a.sums.now _ _ l.invariant (omega (arith, n, c.requires.same_length)) in
    record { answer = p.0; lengths = p.1.0; totals = p.1.1 }
