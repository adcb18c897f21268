-- `delay_csv::table::count`: the records so far, and those that are left, are all.
use mathlib.Core.Path.{◌≡◌}
use Prim.Native.Nat.{◌+◌, ◌-◌, ◌*◌, ◌≤◌}
use lib.ListN.{length, drop}
use Rattle.delay_csv.specs.Records.{records}
use Rattle.delay_csv.proofs.PassLaws.{left}
use Rattle.delay_csv.proofs.table.count.Given as goal

abbrev pub invariant-loop-k : goal.invariant-loop-k
invariant-loop-k l = (l.n + left l.begun (drop l.k l.text) ≡ length (records (drop l.at l.text))) × (2 * l.n ≤ l.k) × (l.k ≤ length l.text)

abbrev pub decreases-loop-k : goal.decreases-loop-k
decreases-loop-k l = length l.text - l.k
