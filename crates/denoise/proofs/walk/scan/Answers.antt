-- `denoise::walk::scan`: the machine's step before the last minute.
use mathlib.Core.Path.{refl, sym, ap, ◌∙◌}
use native.Mathlib.Omega.{arith}
use lib.IntN.{pos, neg_ℤ}
use Rattle.integers.specs.Order.{abs_neg}
use Rattle.optimality.specs.StateValues.{touched}
use Rattle.optimality.proofs.TenStepsLaws.{touched-begin}
use Rattle.denoise.specs.Variables.{state_of, variables_of}
use Rattle.denoise.specs.Walk.{as_segment}
use Rattle.denoise.proofs.WalkSteps.{advance-ready, begin-ready, taken3, taken4, taken-on, ahead, cut-segment}
use Rattle.denoise.proofs.walk.scan.Goals as goal

pub step_3-requires-clause-k0_le_kminus : goal.step_3-requires-clause-k0_le_kminus
step_3-requires-clause-k0_le_kminus c =
    let T = taken3 _ _ c.args.series.limited c.requires.good c.requires.k_in_bounds (sym c.test_3.ensures ∙ c.if-test_3.true) in
    (ahead _ _ c.args.series.limited c.requires.good T).0

pub step_3-requires-clause-kminus_in_bounds : goal.step_3-requires-clause-kminus_in_bounds
step_3-requires-clause-kminus_in_bounds c =
    let T = taken3 _ _ c.args.series.limited c.requires.good c.requires.k_in_bounds (sym c.test_3.ensures ∙ c.if-test_3.true) in
    (ahead _ _ c.args.series.limited c.requires.good T).1

pub step_6-requires-clause-ready : goal.step_6-requires-clause-ready
step_6-requires-clause-ready c =
    let a = c.args.series in
    let T = taken3 _ _ c.args.series.limited c.requires.good c.requires.k_in_bounds (sym c.test_3.ensures ∙ c.if-test_3.true) in
    rw c.step_3.ensures.state (begin-ready _ _ a.limited c.args.r.kminus (pos a.smoothing) (ahead _ _ a.limited c.requires.good T).1 (omega arith))

pub returns-then-test_3 : goal.returns-then-test_3
returns-then-test_3 c =
    let a = c.args.series in
    let r = c.args.r in
    let L = pos a.smoothing in
    let ys = a.samples.now in
    let e = c.step_6.ensures.state ys ∙ ap (λ q. variables_of (touched L ys (state_of q))) c.step_3.ensures.state ∙ ap variables_of (touched-begin L ys r.kminus L) in
    let T = taken3 _ _ c.args.series.limited c.requires.good c.requires.k_in_bounds (sym c.test_3.ensures ∙ c.if-test_3.true) in
    rw T (ap as_segment c.step_3.ensures.part ∙ cut-segment r.k0 r.kminus r.vmin c.requires.good.first, e, rw e refl)

pub step_4-requires-clause-k0_le_kplus : goal.step_4-requires-clause-k0_le_kplus
step_4-requires-clause-k0_le_kplus c =
    let T = taken4 _ _ c.args.series.limited c.requires.good c.requires.k_in_bounds (sym c.test_3.ensures ∙ c.if-test_3.false) (sym c.test_4.ensures ∙ c.if-test_4.true) in
    (ahead _ _ c.args.series.limited c.requires.good T).0

pub step_4-requires-clause-kplus_in_bounds : goal.step_4-requires-clause-kplus_in_bounds
step_4-requires-clause-kplus_in_bounds c =
    let T = taken4 _ _ c.args.series.limited c.requires.good c.requires.k_in_bounds (sym c.test_3.ensures ∙ c.if-test_3.false) (sym c.test_4.ensures ∙ c.if-test_4.true) in
    (ahead _ _ c.args.series.limited c.requires.good T).1

pub step_6-requires-then-test_4-clause-ready : goal.step_6-requires-then-test_4-clause-ready
step_6-requires-then-test_4-clause-ready c =
    let a = c.args.series in
    let T = taken4 _ _ c.args.series.limited c.requires.good c.requires.k_in_bounds (sym c.test_3.ensures ∙ c.if-test_3.false) (sym c.test_4.ensures ∙ c.if-test_4.true) in
    rw c.step_4.ensures.state (begin-ready _ _ a.limited c.args.r.kplus (neg_ℤ (pos a.smoothing)) (ahead _ _ a.limited c.requires.good T).1 (omega (arith, abs_neg (pos a.smoothing))))

pub returns-then-test_4 : goal.returns-then-test_4
returns-then-test_4 c =
    let a = c.args.series in
    let r = c.args.r in
    let L = pos a.smoothing in
    let ys = a.samples.now in
    let e = c.step_6-then-test_4.ensures.state ys ∙ ap (λ q. variables_of (touched L ys (state_of q))) c.step_4.ensures.state ∙ ap variables_of (touched-begin L ys r.kplus (neg_ℤ L)) in
    let T = taken4 _ _ c.args.series.limited c.requires.good c.requires.k_in_bounds (sym c.test_3.ensures ∙ c.if-test_3.false) (sym c.test_4.ensures ∙ c.if-test_4.true) in
    rw T (ap as_segment c.step_4.ensures.part ∙ cut-segment r.k0 r.kplus r.vmax c.requires.good.first, e, rw e refl)

pub step_6-requires-2-clause-ready : goal.step_6-requires-2-clause-ready
step_6-requires-2-clause-ready c = rw c.step_5.ensures.state (advance-ready _ _ c.args.series.limited c.requires.good c.requires.k_in_bounds)

pub returns : goal.returns
returns c =
    let ys = c.args.series.samples.now in
    let T = taken-on _ _ c.args.series.limited c.requires.good c.requires.k_in_bounds (sym c.test_3.ensures ∙ c.if-test_3.false) (sym c.test_4.ensures ∙ c.if-test_4.false) in
    rw T (c.step_6-2.ensures.state ys ∙ ap (λ q. variables_of (touched (pos c.args.series.smoothing) ys (state_of q))) c.step_5.ensures.state)
