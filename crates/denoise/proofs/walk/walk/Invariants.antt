-- `denoise::walk::walk`: at step 3 a minute is left and the budget is not spent; steps 8 to 10 keep what is kept at step 7.
use Rattle.std.proofs.Common.{◌≤◌}
use Rattle.optimality.specs.Walk.{left}
use Rattle.denoise.specs.Variables.{data_of, state_of}
use Rattle.denoise.proofs.WalkLoop.{Inside, Ending}
use Rattle.denoise.proofs.walk.walk.Given as goal

abbrev pub invariant-loop-next : goal.invariant-loop-next
invariant-loop-next l = Inside l.fn.samples l.fn.smoothing l.running l.fn.from l.fn.lengths l.fn.totals l.budget l.lengths l.totals l.m l.spent l.r

abbrev pub decreases-loop-next : goal.decreases-loop-next
decreases-loop-next l = left (data_of l.fn.samples l.fn.smoothing) (state_of l.r)

abbrev pub invariant-loop-r : goal.invariant-loop-r
invariant-loop-r l =
    Ending l.fn.samples l.fn.smoothing l.running l.fn.from l.fn.lengths l.fn.totals l.budget l.lengths l.totals l.m l.spent l.r
    × (left (data_of l.fn.samples l.fn.smoothing) (state_of l.r) ≤ left (data_of l.fn.samples l.fn.smoothing) (state_of l.initial.r))

abbrev pub decreases-loop-r : goal.decreases-loop-r
decreases-loop-r l = left (data_of l.fn.samples l.fn.smoothing) (state_of l.r)
