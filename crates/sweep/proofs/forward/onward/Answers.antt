-- `sweep::forward::onward`: a look that closes no segment is a step on.
use Rattle.std.proofs.Common.{arith}
use Rattle.sweep.proofs.StretchLaws.{inside}
use Rattle.sweep.proofs.ForwardLaws.{passed, less, none_passed, both-passed}
use Rattle.sweep.proofs.forward.onward.Goals as goal

pub loop-c-init : goal.loop-c-init
loop-c-init c = none_passed c.requires.held

pub overflow_add-i : goal.overflow_add-i
overflow_add-i c = omega (arith, inside _ _ c.args.series.limited _ _ c.loop-c.invariant.held, c.args.series.limited.few)

pub look-requires-clause-held : goal.look-requires-clause-held
look-requires-clause-held c = c.loop-c.invariant.held

pub returns-in-Fall : goal.returns-in-Fall
returns-in-Fall c = (c.loop-c.invariant, (c.loop-c-test.true, c.in-Fall.ensures))

pub returns-in-Rise : goal.returns-in-Rise
returns-in-Rise c = (c.loop-c.invariant, (c.loop-c-test.true, c.in-Rise.ensures))

pub loop-c-smaller : goal.loop-c-smaller
loop-c-smaller c = less c.args.series.limited c.loop-c.invariant.held c.loop-c-test.true _ c.in-On.ensures

pub loop-c-preserved : goal.loop-c-preserved
loop-c-preserved c = both-passed c.loop-c.invariant (passed c.args.series.limited c.loop-c.invariant.held c.loop-c-test.true _ c.in-On.ensures)

pub returns : goal.returns
returns c = (c.loop-c.invariant, omega (arith, inside _ _ c.args.series.limited _ _ c.loop-c.invariant.held, c.loop-c-test.false))
