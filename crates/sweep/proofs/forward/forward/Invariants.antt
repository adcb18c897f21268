-- `sweep::forward::forward`: each turn of the loop closes a segment and writes it.
use Rattle.std.proofs.Common.{◌-◌, length}
use Rattle.sweep.proofs.ForwardLaws.{Along}
use Rattle.sweep.proofs.forward.forward.Given as goal

abbrev pub invariant-loop-spent : goal.invariant-loop-spent
invariant-loop-spent l = Along l.series.samples.now l.series.smoothing l.budget l.fn.lengths l.fn.totals l.lengths l.totals l.m l.spent l.o

abbrev pub decreases-loop-spent : goal.decreases-loop-spent
decreases-loop-spent l = length l.series.samples.now - l.o.i
