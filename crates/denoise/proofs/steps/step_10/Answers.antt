-- `denoise::steps::step_10`: as printed.
use mathlib.Core.Path.{refl, sym}
use native.Mathlib.Omega.{arith}
use lib.IntN.{pos, +ℤ_idr}
use Rattle.optimality.specs.TenSteps.{x10}
use Rattle.optimality.proofs.TenStepsLaws.{last10}
use Rattle.denoise.specs.Variables.{state_of, values_of}
use Rattle.denoise.proofs.VariableLaws.{part-set, suc-before}
use Rattle.denoise.proofs.steps.step_10.Goals as goal

pub returns-clause-x : goal.returns-clause-x
returns-clause-x c =
    let r = c.args.r in
    let R = c.requires.ready in
    let L = pos c.args.series.smoothing in
    let ys = c.args.series.samples.now in
    let level = rw (suc-before r.k0 R.first, +ℤ_idr r.mean.total) at (last10 L ys (state_of r) R.fair) in
    part-set r R r.k r.mean (omega (arith, R.fair.from, suc-before r.k0 R.first)) (x10 L ys (values_of r)) c.cut.ensures refl (sym c.requires.at_end) level
