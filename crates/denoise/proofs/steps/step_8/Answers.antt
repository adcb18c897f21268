-- `denoise::steps::step_8`: as printed.
use mathlib.Core.Path.{ap, ◌∙◌}
use lib.IntN.{pos}
use Rattle.optimality.specs.Machine.{begin, keep_max}
use Rattle.optimality.specs.TenSteps.{step8}
use Rattle.optimality.proofs.TenStepsLaws.{begin8}
use Rattle.denoise.specs.Variables.{data_of, state_of, variables_of}
use Rattle.denoise.proofs.Signs.{plus-read}
use Rattle.denoise.proofs.VariableLaws.{told}
use Rattle.denoise.proofs.steps.step_8.Goals as goal

pub returns-clause-values : goal.returns-clause-values
returns-clause-values c =
    let a = c.args.series in
    let r = c.args.r in
    let R = c.requires.ready in
    let L = pos a.smoothing in
    let ys = a.samples.now in
    let d = data_of ys a.smoothing in
    told r R.first (step8 L ys) (keep_max d (state_of r) (begin d r.kminus L)) (ap (λ q. record { k = q.k; k0 = q.k0; kminus = q.kminus; vmin = q.vmin; kplus = r.kplus; vmax = r.vmax; mean = q.mean }) (c.begin.ensures ∙ ap (λ u. variables_of (begin d r.kminus u)) (plus-read a.smoothing a.limited.smooth))) (begin8 L ys (state_of r) R.fair)
