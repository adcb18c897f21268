-- `checker::walk::Walk::whole`: each turn takes one segment off what is left; at the end nothing is.
use mir.Syntax.{w64}
use mir.Val.{SFits}
use mir.Facts.{to_z-of_z}
use Rattle.std.proofs.Common.{rules, pos, get_or}
use native.Mathlib.Omega.{arith}
use Rattle.checker.specs.Walk.{walk_start, step_of}
use Rattle.checker.proofs.FoldLaws.{left-next, left_end}
use Rattle.checker.proofs.walk.Walk.whole.Goals as goal

pub loop-k-preserved : goal.loop-k-preserved
loop-k-preserved c =
    let f : SFits w64 (get_or c.args.totals.now c.loop-k.k (pos 0)) = search rules in
    left-next (step_of c.args.smoothing c.args.samples.now) walk_start c.args.lengths.now c.args.totals.now c.requires c.loop-k.k c.loop-k.w _ c.loop-k-test.true c.loop-k.invariant
    (rw (to_z-of_z f) at c.step-w.ensures)

pub returns : goal.returns
returns c =
    left_end (step_of c.args.smoothing c.args.samples.now) walk_start c.args.lengths.now c.args.totals.now c.loop-k.k c.loop-k.w (omega arith) c.loop-k.invariant
