-- `denoise::steps::below`: the products fit.
use mathlib.Core.Path.{ap₂}
use lib.Signed.{lt_z}
use Rattle.optimality.proofs.SmallNumbers.{product-read}
use Rattle.denoise.proofs.steps.below.Goals as goal

pub returns : goal.returns
returns c = ap₂ lt_z (product-read c.requires.b_small c.requires.a_small) (product-read c.requires.a_small c.requires.b_small)
