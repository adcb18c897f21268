-- `denoise::steps::step_3`: as printed.
use mathlib.Core.Path.{ap, ◌∙◌}
use lib.IntN.{pos}
use Rattle.optimality.specs.Machine.{begin}
use Rattle.optimality.specs.TenSteps.{step3}
use Rattle.optimality.proofs.TenStepsLaws.{begin3}
use Rattle.denoise.specs.Variables.{data_of, state_of, variables_of}
use Rattle.denoise.proofs.Signs.{plus-read}
use Rattle.denoise.proofs.VariableLaws.{told}
use Rattle.denoise.proofs.steps.step_3.Goals as goal

pub returns-clause-values : goal.returns-clause-values
returns-clause-values c =
    let a = c.args.series in
    let r = c.args.r in
    let R = c.requires.ready in
    let L = pos a.smoothing in
    let ys = a.samples.now in
    let d = data_of ys a.smoothing in
    told r R.first (step3 L ys) (begin d r.kminus L) (c.begin-next.ensures ∙ ap (λ u. variables_of (begin d r.kminus u)) (plus-read a.smoothing a.limited.smooth)) (begin3 L ys (state_of r))
