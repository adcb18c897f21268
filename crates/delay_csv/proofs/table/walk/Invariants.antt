-- `delay_csv::table::walk`: after each turn a record more is walked over.
use Rattle.delay_csv.specs.Walk.{Walks}
use Rattle.delay_csv.proofs.table.walk.Given as goal

abbrev pub invariant-loop-minutes : goal.invariant-loop-minutes
invariant-loop-minutes l = Walks l.text l.minutes l.at l.far
