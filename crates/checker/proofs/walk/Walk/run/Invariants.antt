-- Segments k on are left: what they give from the walk so far is what the whole run gives.
use Rattle.std.proofs.Common.{◌≡◌}
use Rattle.checker.specs.Walk.{walk_start}
use Rattle.checker.proofs.RecordLaws.{left}
use Rattle.checker.proofs.walk.Walk.run.Given as goal

abbrev pub invariant-loop-k : goal.invariant-loop-k
invariant-loop-k l = left l.smoothing l.samples l.segments l.k l.w ≡ left l.smoothing l.samples l.segments 0 walk_start
