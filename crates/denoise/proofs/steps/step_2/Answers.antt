-- `denoise::steps::step_2`: as printed.
use mathlib.Core.Path.{◌≡◌, sym, ap, ◌∙◌}
use native.Mathlib.Omega.{arith}
use lib.IntN.{pos, +ℤ_idr}
use Rattle.optimality.specs.TenSteps.{x2}
use Rattle.optimality.proofs.TenStepsLaws.{last2}
use Rattle.denoise.specs.Variables.{state_of, values_of}
use Rattle.denoise.proofs.VariableLaws.{part-set, suc-before}
use Rattle.denoise.proofs.steps.step_2.Goals as goal

pub returns-clause-x : goal.returns-clause-x
returns-clause-x c =
    let r = c.args.r in
    let R = c.requires.ready in
    let L = pos c.args.series.smoothing in
    let ys = c.args.series.samples.now in
    let one : r.mean.n ≡ pos 1 = R.fair.n ∙ ap pos (omega (arith, c.requires.one_minute, suc-before r.k0 R.first)) in
    let level = rw (+ℤ_idr r.mean.total) at (last2 L ys (state_of r) R.fair one) in
    part-set r R r.k r.mean (omega (arith, c.requires.one_minute)) (x2 L ys (values_of r)) c.cut.ensures (sym c.requires.at_end ∙ c.requires.one_minute) (sym c.requires.at_end) level
