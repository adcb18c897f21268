-- `denoise::steps::test_3`: as printed.
use mathlib.Core.Path.{sym, ap, ◌∙◌}
use lib.IntN.{pos}
use Rattle.optimality.specs.TenSteps.{if3}
use Rattle.optimality.proofs.TenStepsLaws.{test3-is}
use Rattle.denoise.specs.Variables.{below_of, upper_of, state_of}
use Rattle.denoise.proofs.VariableLaws.{next-sample, next-middle, middle-small, upper_small, values_are}
use Rattle.denoise.proofs.steps.test_3.Goals as goal

pub further-next-requires-clause-sample_bound : goal.further-next-requires-clause-sample_bound
further-next-requires-clause-sample_bound c = next-sample c.requires.ready c.args.series.limited c.requires.k_in_bounds

pub upper-requires-clause-a_small : goal.upper-requires-clause-a_small
upper-requires-clause-a_small c = rw c.further-next.ensures (middle-small _ (next-middle c.requires.ready c.args.series.limited c.requires.k_in_bounds))

pub below-requires-clause-a_small : goal.below-requires-clause-a_small
below-requires-clause-a_small c =
    let a = c.args.series in
    rw (c.upper.ensures, c.further-next.ensures) (upper_small a.smoothing _ (next-middle c.requires.ready a.limited c.requires.k_in_bounds) a.limited.smooth)

pub returns : goal.returns
returns c =
    let a = c.args.series in
    let r = c.args.r in
    let R = c.requires.ready in
    c.below.ensures
    ∙ ap (λ t. below_of t r.vmin) c.upper.ensures
    ∙ ap (λ t. below_of (upper_of a.smoothing t) r.vmin) c.further-next.ensures
    ∙ sym (test3-is (pos a.smoothing) a.samples.now (state_of r) R.fair)
    ∙ ap (if3 (pos a.smoothing) a.samples.now) (values_are r R.first)
