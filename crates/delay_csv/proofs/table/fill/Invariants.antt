-- `delay_csv::table::fill`: after k records the first k delays stand in the list.
use mathlib.Core.Path.{◌≡◌}
use Prim.Native.Nat.{suc, ◌-◌, ◌≤◌}
use lib.ListN.{length, drop}
use Rattle.series.proofs.ListLoop.{Copied}
use Rattle.delay_csv.specs.Records.{rows, delays}
use Rattle.delay_csv.proofs.PassLaws.{rows_at}
use Rattle.delay_csv.proofs.table.fill.Given as goal

abbrev pub invariant-loop-at : goal.invariant-loop-at
invariant-loop-at l =
    Copied l.initial.samples (delays l.text) l.k l.samples × (rows_at l.text (suc l.k) l.at ≡ drop l.k (rows l.text)) × (l.k ≤ length (rows l.text)) × (l.at ≤ length l.text)

abbrev pub decreases-loop-at : goal.decreases-loop-at
decreases-loop-at l = length l.text - l.at
