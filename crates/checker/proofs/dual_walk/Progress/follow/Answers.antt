-- `checker::dual_walk::Progress::follow`: a segment that is entered has a level within the limits, and a dual within its bounds.
use mathlib.Core.Path.{sym, ◌∙◌}
use native.Mathlib.Omega.{arith}
use Rattle.checker.proofs.StopLaws.{unstopped}
use Rattle.checker.proofs.NoOverflow.{enters}
use Rattle.checker.proofs.dual_walk.Progress.follow.Goals as goal

pub along-requires : goal.along-requires
along-requires c =
    let g = c.args in
    let e = c.enter-e.ensures in
    let v = enters g.smoothing g.self g.s g.t (rw e at (unstopped _ (sym c.is_some-2.ensures ∙ c.if-is_some-2.false))) in
    record { smoothing = c.if-smoothing-gt-SMOOTHING.false; valid = v.0; room = omega (arith, c.if-n-e.false, c.if-n-e-2.false); small = λ k. rw e v.1 }
