-- `denoise::steps::step_4`: as printed.
use mathlib.Core.Path.{ap, ◌∙◌}
use lib.IntN.{pos, neg_ℤ}
use Rattle.optimality.specs.Machine.{begin}
use Rattle.optimality.specs.TenSteps.{step4}
use Rattle.optimality.proofs.TenStepsLaws.{begin4}
use Rattle.denoise.specs.Variables.{data_of, state_of, variables_of}
use Rattle.denoise.proofs.Signs.{minus-read}
use Rattle.denoise.proofs.VariableLaws.{told}
use Rattle.denoise.proofs.steps.step_4.Goals as goal

pub returns-clause-state : goal.returns-clause-state
returns-clause-state c =
    let a = c.args.series in
    let r = c.args.r in
    let L = pos a.smoothing in
    let ys = a.samples.now in
    let d = data_of ys a.smoothing in
    c.begin-next.ensures ∙ ap (λ u. variables_of (begin d r.kplus u)) (minus-read a.smoothing a.limited.smooth)

pub returns-clause-values : goal.returns-clause-values
returns-clause-values c =
    let a = c.args.series in
    let r = c.args.r in
    let R = c.requires.ready in
    let L = pos a.smoothing in
    let ys = a.samples.now in
    let d = data_of ys a.smoothing in
    told r R.first (step4 L ys) (begin d r.kplus (neg_ℤ L)) (c.begin-next.ensures ∙ ap (λ u. variables_of (begin d r.kplus u)) (minus-read a.smoothing a.limited.smooth)) (begin4 L ys (state_of r))
