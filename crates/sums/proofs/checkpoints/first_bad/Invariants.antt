-- `sums::checkpoints::first_bad`: what is found from entry k on is what is found from `at` on.
use Rattle.std.proofs.Common.{◌≡◌, suc, drop}
use Rattle.sums.specs.Checkpoints.{first_bad}
use Rattle.sums.proofs.checkpoints.first_bad.Given as goal

abbrev pub invariant-loop-k : goal.invariant-loop-k
invariant-loop-k l = first_bad (suc l.at) (drop l.at l.entries) ≡ first_bad (suc l.k) (drop l.k l.entries)
