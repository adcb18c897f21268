-- `series::inner::copy`: so many first entries are copied.
use Rattle.series.proofs.ListLoop.{Copied}
use Rattle.series.proofs.inner.copy.Given as goal

abbrev pub invariant-loop-i : goal.invariant-loop-i
invariant-loop-i g l = Copied l.fn.out l.entries l.i l.out
