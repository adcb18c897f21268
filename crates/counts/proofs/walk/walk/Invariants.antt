-- `counts::walk::walk`: so many series are counted, and the samples are those of the next one.
use Rattle.std.proofs.Common.{length}
use Rattle.counts.proofs.TurnLaws.{Turned}
use Rattle.counts.proofs.walk.walk.Given as goal

abbrev pub invariant-loop : goal.invariant-loop
invariant-loop l = Turned l.top l.smoothing (length l.fn.samples) l.counter l.samples l.counts l.lengths l.totals
