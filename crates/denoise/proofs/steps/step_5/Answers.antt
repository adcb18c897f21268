-- `denoise::steps::step_5`: as printed.
use mathlib.Core.Path.{◌≡◌, sym}
use native.Mathlib.Numerals.{add-one}
use lib.IntN.{pos}
use Rattle.optimality.specs.TenSteps.{step5}
use Rattle.optimality.specs.StateValues.{advance}
use Rattle.optimality.proofs.TenStepsLaws.{advance5}
use Rattle.denoise.specs.Variables.{state_of, variables_of}
use Rattle.denoise.proofs.VariableLaws.{next-sample, suc-before, told}
use Rattle.denoise.proofs.steps.step_5.Goals as goal

pub further-requires-clause-sample_bound : goal.further-requires-clause-sample_bound
further-requires-clause-sample_bound c = next-sample c.requires.ready c.args.series.limited c.requires.k_in_bounds

pub returns-clause-values : goal.returns-clause-values
returns-clause-values c =
    let r = c.args.r in
    let R = c.requires.ready in
    let k0 = sym (suc-before r.k0 R.first) in
    let L = pos c.args.series.smoothing in
    let ys = c.args.series.samples.now in
    let e : _ ≡ variables_of (advance L ys (state_of r)) =
    λ t. record { k = add-one r.k t; k0 = k0 t; kminus = r.kminus; kplus = r.kplus; vmin = r.vmin; vmax = r.vmax; mean = c.further.ensures t } in
    told r R.first (step5 L ys) (advance L ys (state_of r)) e (advance5 L ys (state_of r) R.fair)
