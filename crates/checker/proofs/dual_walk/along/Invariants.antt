-- The minutes left give from here what the whole segment gives.
use Rattle.std.proofs.Common.{◌≡◌}
use Rattle.checker.specs.Walk.{along_of, Ahead}
use Rattle.checker.proofs.dual_walk.along.Given as goal

abbrev pub invariant-loop-left : goal.invariant-loop-left
invariant-loop-left l = record {
  ahead : Ahead l.bound.smoothing l.samples l.t l.e l.left;
  same : along_of l.bound.smoothing l.samples l.t l.e l.left ≡ along_of l.bound.smoothing l.samples l.t l.fn.d l.t.length;
}
