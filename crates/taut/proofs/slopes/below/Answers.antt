use Rattle.std.proofs.Common.{ap₂}
use lib.Signed.{lt_z}
use Rattle.optimality.proofs.SmallNumbers.{product-read}
use Rattle.taut.proofs.slopes.below.Goals as goal

pub returns : goal.returns
returns c =
    let p = c.requires in
    ap₂ lt_z (product-read p.b_small p.a_small) (product-read p.a_small p.b_small)
