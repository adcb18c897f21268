-- `sums::checkpoints::sum`: the sum of the samples so far, each of them at most 2^31.
use Rattle.std.proofs.Common.{◌≡◌, take, ◌*◌, ◌≤◌, nat_abs}
use Rattle.integers.specs.Sums.{sum_z}
use Rattle.sums.proofs.checkpoints.sum.Given as goal

abbrev pub invariant-loop-y : goal.invariant-loop-y
invariant-loop-y l = (l.total ≡ sum_z (take l.y-index l.samples)) × (nat_abs l.total ≤ l.y-index * 2147483648)
