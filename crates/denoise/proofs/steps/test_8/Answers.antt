-- `denoise::steps::test_8`: as printed.
use mathlib.Core.Path.{sym, ap, ◌∙◌}
use lib.IntN.{◌*ℤ◌, +ℤ_idr}
use lib.Signed.{lt_z}
use Rattle.optimality.specs.TenSteps.{if8}
use Rattle.optimality.proofs.TenStepsLaws.{test8-is}
use Rattle.denoise.specs.Variables.{state_of}
use Rattle.denoise.proofs.VariableLaws.{values_are}
use Rattle.denoise.proofs.steps.test_8.Goals as goal

pub returns : goal.returns
returns c L ys =
    let r = c.args.r in
    c.below.ensures
    ∙ ap (λ t. lt_z (r.vmin.n *ℤ t) (r.mean.n *ℤ r.vmin.total)) (sym (+ℤ_idr r.mean.total))
    ∙ sym (test8-is L ys (state_of r) c.requires.fair)
    ∙ ap (if8 L ys) (values_are r c.requires.first)
