-- `denoise::steps::step_9`: as printed.
use mathlib.Core.Path.{ap, ◌∙◌}
use lib.IntN.{pos, neg_ℤ}
use Rattle.optimality.specs.Machine.{begin, keep_min}
use Rattle.optimality.specs.TenSteps.{step9}
use Rattle.optimality.proofs.TenStepsLaws.{begin9}
use Rattle.denoise.specs.Variables.{data_of, state_of, variables_of}
use Rattle.denoise.proofs.Signs.{minus-read}
use Rattle.denoise.proofs.VariableLaws.{told}
use Rattle.denoise.proofs.steps.step_9.Goals as goal

pub returns-clause-state : goal.returns-clause-state
returns-clause-state c =
    let a = c.args.series in
    let r = c.args.r in
    let L = pos a.smoothing in
    let ys = a.samples.now in
    let d = data_of ys a.smoothing in
    ap (λ q. record { k = q.k; k0 = q.k0; kplus = q.kplus; vmax = q.vmax; kminus = r.kminus; vmin = r.vmin; mean = q.mean }) (c.begin.ensures ∙ ap (λ u. variables_of (begin d r.kplus u)) (minus-read a.smoothing a.limited.smooth))

pub returns-clause-values : goal.returns-clause-values
returns-clause-values c =
    let a = c.args.series in
    let r = c.args.r in
    let R = c.requires.ready in
    let L = pos a.smoothing in
    let ys = a.samples.now in
    let d = data_of ys a.smoothing in
    told r R.first (step9 L ys) (keep_min d (state_of r) (begin d r.kplus (neg_ℤ L))) (ap (λ q. record { k = q.k; k0 = q.k0; kplus = q.kplus; vmax = q.vmax; kminus = r.kminus; vmin = r.vmin; mean = q.mean }) (c.begin.ensures ∙ ap (λ u. variables_of (begin d r.kplus u)) (minus-read a.smoothing a.limited.smooth))) (begin9 L ys (state_of r) R.fair)
