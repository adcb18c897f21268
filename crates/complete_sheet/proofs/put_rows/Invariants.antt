-- `complete_sheet::put_rows`: the rows of the segments so far are written.
use Rattle.complete_sheet.proofs.RowLoop.{Turns}
use Rattle.complete_sheet.proofs.put_rows.Given as goal

abbrev pub invariant-loop-k : goal.invariant-loop-k
invariant-loop-k l = Turns l.fn.out l.fn.at l.lengths l.totals l.out l.next l.first l.k
