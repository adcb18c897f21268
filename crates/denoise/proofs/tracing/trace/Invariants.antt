-- `denoise::tracing::trace`: the segments that are left, filled in from here on, give the dual of the whole line.
use Rattle.std.proofs.Common.{length}
use Rattle.denoise.specs.Portion.{ahead}
use Rattle.denoise.proofs.TraceLoop.{Tracing}
use Rattle.denoise.proofs.tracing.trace.Given as goal

abbrev pub invariant-loop-r : goal.invariant-loop-r
invariant-loop-r l = Tracing l.series.samples.now l.series.smoothing l.initial.out l.lengths l.totals l.out l.from l.o

abbrev pub decreases-loop-r : goal.decreases-loop-r
decreases-loop-r l = length (ahead l.series.samples.now l.series.smoothing l.from)
