-- `series::first_beyond`: what is found from minute k on is what is found from `at` on.
use Rattle.std.proofs.Common.{◌≡◌, suc, drop}
use Rattle.series.specs.Search.{first_from}
use Rattle.series.specs.Limits.{bad_sample}
use Rattle.series.proofs.first_beyond.Given as goal

abbrev pub invariant-loop-k : goal.invariant-loop-k
invariant-loop-k l = first_from bad_sample (suc l.at) (drop l.at l.samples) ≡ first_from bad_sample (suc l.k) (drop l.k l.samples)
