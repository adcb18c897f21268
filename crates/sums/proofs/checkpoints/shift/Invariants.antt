-- `sums::checkpoints::shift`: after some turns all entries up to entry e are moved.
use Rattle.std.proofs.Common.{◌≡◌, length}
use Rattle.sums.specs.Calls.{moved}
use Rattle.sums.proofs.checkpoints.shift.Given as goal

abbrev pub invariant-loop-e : goal.invariant-loop-e
invariant-loop-e l = (l.entries ≡ moved l.from l.e l.by l.fn.entries) × (length l.entries ≡ length l.fn.entries)
