-- `layout::lists::read_segments`: after i turns the first i segments stand in the two lists.
use Rattle.layout.specs.Format.{read_length, read_total}
use Rattle.layout.proofs.ListLoop.{Filled}
use Rattle.layout.proofs.lists.read_segments.Given as goal

abbrev pub invariant-loop-i : goal.invariant-loop-i
invariant-loop-i l =
    Filled l.initial.lengths 12 read_length l.sheet l.at l.i l.lengths × Filled l.initial.totals 12 read_total l.sheet l.at l.i l.totals
