-- `fused_lasso::threshold::put_all`: each turn puts one segment, and keeps what the lists come to.
use Rattle.std.proofs.Common.{length, drop}
use Rattle.optimality.specs.PlainSeries.{segments}
use Rattle.fused_lasso.specs.Threshold.{written, put_of}
use Rattle.fused_lasso.proofs.ThresholdLoop.{Thresholding}
use Rattle.fused_lasso.proofs.threshold.put_all.Given as goal

abbrev pub invariant-loop-len : goal.invariant-loop-len
invariant-loop-len l =
    Thresholding l.floor (put_of l.floor l.fn.lengths l.fn.totals l.m (segments l.lens l.sums)) l.fn.lengths l.fn.totals l.lengths l.totals l.n
    (drop (length l.yielded) (written (length l.lens) l.lens l.sums))
