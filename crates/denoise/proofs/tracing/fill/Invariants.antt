-- `denoise::tracing::fill`: the minutes that are left of the segment, written from here on, give the dual along all of it.
use lib.IntN.{◌*ℤ◌}
use Rattle.denoise.proofs.FillLoop.{Filling}
use Rattle.denoise.proofs.tracing.fill.Given as goal

abbrev pub invariant-loop-k : goal.invariant-loop-k
invariant-loop-k l = Filling l.samples l.p l.fn.m.i l.end (record { v = l.p.n *ℤ l.fn.m.u; u = l.fn.m.u }) l.initial.out l.out l.k l.d
