-- `sums::checkpoints::fill`: after e turns the first e checkpoints stand in the list.
use Rattle.std.proofs.Common.{◌≡◌, ◌*◌, ◌≤◌, nat_abs}
use Rattle.series.proofs.ListLoop.{Begins}
use Rattle.sums.specs.Checkpoints.{prefix_sum, prefix_sums}
use Rattle.sums.proofs.checkpoints.fill.Given as goal

abbrev pub invariant-loop-e : goal.invariant-loop-e
invariant-loop-e l =
    (l.total ≡ prefix_sum l.samples (256 * l.e)) × (nat_abs l.total ≤ l.e * 549755813888) × Begins l.fn.entries (prefix_sums l.samples l.e) l.e l.entries
