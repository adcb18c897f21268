-- `series::inner::copy`: an entry more.
use mathlib.Core.Path.{refl}
use native.Mathlib.Omega.{arith}
use Rattle.series.proofs.ListLoop.{copied_more, copied_all}
use Rattle.series.proofs.inner.copy.Goals as goal

pub loop-i-init : goal.loop-i-init
loop-i-init g c = (refl, refl)

pub loop-i-preserved : goal.loop-i-preserved
loop-i-preserved g c =
    copied_more c.args.out.now c.args.entries.now c.loop-i.i c.loop-i.out c.index-entries-i.result c.index-entries-i.result (omega (arith, c.loop-i-test.true, c.requires)) c.loop-i-test.true c.index-entries-i.is c.loop-i.invariant

pub returns : goal.returns
returns g c = copied_all _ _ c.loop-i.i _ (omega (arith, c.loop-i-test.false, c.loop-i.auto)) c.loop-i.invariant
