-- `fused_lasso::threshold::threshold`: where the walk stands, and that the segments it has left, put after those that the lists hold, give the line above the
-- floor.
use Rattle.std.proofs.Common.{length}
use Rattle.denoise.specs.Portion.{ahead}
use Rattle.fused_lasso.proofs.PortionLoop.{Going}
use Rattle.fused_lasso.proofs.threshold.threshold.Given as goal

abbrev pub invariant-loop-next : goal.invariant-loop-next
invariant-loop-next l = Going l.series.samples.now l.series.smoothing l.floor l.fn.lengths l.fn.totals l.lens l.sums l.lengths l.totals l.from l.m

abbrev pub decreases-loop-next : goal.decreases-loop-next
decreases-loop-next l = length (ahead l.series.samples.now l.series.smoothing l.from)
