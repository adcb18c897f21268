-- `denoise::steps::step_1`: as printed.
use mathlib.Core.Path.{sym, subst}
use lib.IntN.{pos}
use Rattle.optimality.specs.TenSteps.{Same, step1}
use Rattle.optimality.proofs.TenStepsLaws.{begin1}
use Rattle.denoise.specs.Variables.{values_of}
use Rattle.denoise.proofs.steps.step_1.Goals as goal

pub returns-clause-values : goal.returns-clause-values
returns-clause-values c =
    let L = pos c.args.series.smoothing in
    let ys = c.args.series.samples.now in
    subst (λ q. Same (step1 L ys) (values_of q)) (sym c.begin.ensures) (begin1 L ys)
