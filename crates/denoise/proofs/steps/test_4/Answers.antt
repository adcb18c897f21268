-- `denoise::steps::test_4`: as printed.
use mathlib.Core.Path.{sym, ap, ◌∙◌}
use lib.IntN.{pos}
use Rattle.optimality.specs.TenSteps.{if4}
use Rattle.optimality.proofs.TenStepsLaws.{test4-is}
use Rattle.denoise.specs.Variables.{below_of, lower_of, state_of}
use Rattle.denoise.proofs.VariableLaws.{next-sample, next-middle, middle-small, lower-small, values_are}
use Rattle.denoise.proofs.steps.test_4.Goals as goal

pub further-next-requires-clause-sample_bound : goal.further-next-requires-clause-sample_bound
further-next-requires-clause-sample_bound c = next-sample c.requires.ready c.args.series.limited c.requires.k_in_bounds

pub lower-requires-clause-a_small : goal.lower-requires-clause-a_small
lower-requires-clause-a_small c = rw c.further-next.ensures (middle-small _ (next-middle c.requires.ready c.args.series.limited c.requires.k_in_bounds))

pub below-requires-clause-b_small : goal.below-requires-clause-b_small
below-requires-clause-b_small c =
    let a = c.args.series in
    rw (c.lower.ensures, c.further-next.ensures) (lower-small a.smoothing _ (next-middle c.requires.ready a.limited c.requires.k_in_bounds) a.limited.smooth)

pub returns : goal.returns
returns c =
    let a = c.args.series in
    let r = c.args.r in
    let R = c.requires.ready in
    c.below.ensures
    ∙ ap (below_of r.vmax) c.lower.ensures
    ∙ ap (λ t. below_of r.vmax (lower_of a.smoothing t)) c.further-next.ensures
    ∙ sym (test4-is (pos a.smoothing) a.samples.now (state_of r) R.fair)
    ∙ ap (if4 (pos a.smoothing) a.samples.now) (values_are r R.first)
