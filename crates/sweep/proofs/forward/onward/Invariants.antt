-- `sweep::forward::onward`: each turn of the loop is a step of the machine that closes no segment.
use Rattle.optimality.specs.Walk.{left}
use Rattle.denoise.specs.Variables.{data_of}
use Rattle.sweep.specs.Stretch.{state_at}
use Rattle.sweep.specs.Forward.{Passes}
use Rattle.sweep.proofs.forward.onward.Given as goal

abbrev pub invariant-loop-c : goal.invariant-loop-c
invariant-loop-c l = Passes l.series.samples.now l.series.smoothing l.i l.fn.from l.c

abbrev pub decreases-loop-c : goal.decreases-loop-c
decreases-loop-c l = left (data_of l.series.samples.now l.series.smoothing) (state_at l.i l.c)
