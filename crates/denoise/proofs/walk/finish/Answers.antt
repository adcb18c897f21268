-- `denoise::walk::finish`: the machine's step from the last minute.
use mathlib.Core.Path.{refl, sym, ap, ◌∙◌}
use lib.IntN.{pos}
use Rattle.denoise.specs.Walk.{as_segment}
use Rattle.denoise.proofs.WalkSteps.{taken8, taken9, taken10, ahead, cut-segment}
use Rattle.denoise.proofs.walk.finish.Goals as goal

pub step_8-requires-clause-k0_le_kminus : goal.step_8-requires-clause-k0_le_kminus
step_8-requires-clause-k0_le_kminus c =
    let T = taken8 _ _ c.args.series.limited c.requires.good c.requires.at_end (sym (c.test_8.ensures (pos c.args.series.smoothing) c.args.series.samples.now) ∙ c.if-test_8.true) in
    (ahead _ _ c.args.series.limited c.requires.good T).0

pub step_8-requires-clause-kminus_in_bounds : goal.step_8-requires-clause-kminus_in_bounds
step_8-requires-clause-kminus_in_bounds c =
    let T = taken8 _ _ c.args.series.limited c.requires.good c.requires.at_end (sym (c.test_8.ensures (pos c.args.series.smoothing) c.args.series.samples.now) ∙ c.if-test_8.true) in
    (ahead _ _ c.args.series.limited c.requires.good T).1

pub returns-then-test_8 : goal.returns-then-test_8
returns-then-test_8 c =
    let r = c.args.r in
    let e = c.step_8.ensures in
    let T = taken8 _ _ c.args.series.limited c.requires.good c.requires.at_end (sym (c.test_8.ensures (pos c.args.series.smoothing) c.args.series.samples.now) ∙ c.if-test_8.true) in
    rw T (ap as_segment e.part ∙ cut-segment r.k0 r.kminus r.vmin c.requires.good.first, e.state, rw e.state refl)

pub step_9-requires-clause-k0_le_kplus : goal.step_9-requires-clause-k0_le_kplus
step_9-requires-clause-k0_le_kplus c =
    let T = taken9 _ _ c.args.series.limited c.requires.good c.requires.at_end (sym (c.test_8.ensures (pos c.args.series.smoothing) c.args.series.samples.now) ∙ c.if-test_8.false) (sym (c.test_9.ensures (pos c.args.series.smoothing) c.args.series.samples.now) ∙ c.if-test_9.true) in
    (ahead _ _ c.args.series.limited c.requires.good T).0

pub step_9-requires-clause-kplus_in_bounds : goal.step_9-requires-clause-kplus_in_bounds
step_9-requires-clause-kplus_in_bounds c =
    let T = taken9 _ _ c.args.series.limited c.requires.good c.requires.at_end (sym (c.test_8.ensures (pos c.args.series.smoothing) c.args.series.samples.now) ∙ c.if-test_8.false) (sym (c.test_9.ensures (pos c.args.series.smoothing) c.args.series.samples.now) ∙ c.if-test_9.true) in
    (ahead _ _ c.args.series.limited c.requires.good T).1

pub returns-then-test_9 : goal.returns-then-test_9
returns-then-test_9 c =
    let r = c.args.r in
    let e = c.step_9.ensures in
    let T = taken9 _ _ c.args.series.limited c.requires.good c.requires.at_end (sym (c.test_8.ensures (pos c.args.series.smoothing) c.args.series.samples.now) ∙ c.if-test_8.false) (sym (c.test_9.ensures (pos c.args.series.smoothing) c.args.series.samples.now) ∙ c.if-test_9.true) in
    rw T (ap as_segment e.part ∙ cut-segment r.k0 r.kplus r.vmax c.requires.good.first, e.state, rw e.state refl)

pub returns : goal.returns
returns c =
    let r = c.args.r in
    let T = taken10 _ _ c.args.series.limited c.requires.good c.requires.at_end (sym (c.test_8.ensures (pos c.args.series.smoothing) c.args.series.samples.now) ∙ c.if-test_8.false) (sym (c.test_9.ensures (pos c.args.series.smoothing) c.args.series.samples.now) ∙ c.if-test_9.false) in
    rw T (ap as_segment c.step_10.ensures.part ∙ cut-segment r.k0 r.k r.mean c.requires.good.first)
