-- `checker::walk::Walk::run`: each turn takes one segment off what is left; at the end nothing is.
use native.Mathlib.Omega.{arith}
use mir.Syntax.{w64}
use mir.Val.{SFits}
use mir.Facts.{to_z-of_z}
use Rattle.std.proofs.Common.{rules, ◌≡◌, length, get_or}
use Rattle.checker.proofs.RecordLaws.{nil, turn, all}
use Rattle.checker.proofs.walk.Walk.run.Goals as goal

pub loop-k-preserved : goal.loop-k-preserved
loop-k-preserved c =
    let ss = c.args.segments.now in
    let f : SFits w64 (get_or ss c.loop-k.k nil).total = search rules in
    turn c.args.smoothing c.args.samples.now ss c.loop-k.k c.loop-k.w _ c.loop-k-test.true (rw (to_z-of_z f) at c.step-w.ensures) c.loop-k.invariant

pub returns : goal.returns
returns c =
    let ss = c.args.segments.now in
    let e : c.loop-k.k ≡ length ss = omega arith in
    all c.args.smoothing c.args.samples.now ss c.loop-k.w (rw e at c.loop-k.invariant)
