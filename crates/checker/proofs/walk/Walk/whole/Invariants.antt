-- Segments k on are left: what they give from the walk so far is what the whole line gives.
use Rattle.checker.specs.Walk.{walk_start, step_of}
use Rattle.checker.proofs.FoldLaws.{Left}
use Rattle.checker.proofs.walk.Walk.whole.Given as goal

abbrev pub invariant-loop-k : goal.invariant-loop-k
invariant-loop-k l = Left (step_of l.smoothing l.samples) walk_start l.lengths l.totals l.k l.w
