-- `denoise::tracing::fill_all`: the segments that are left of the two lists, filled in from here on, give the dual along all of them.
use Rattle.denoise.proofs.FillAllLoop.{FillingAll}
use Rattle.denoise.proofs.tracing.fill_all.Given as goal

abbrev pub invariant-loop-j : goal.invariant-loop-j
invariant-loop-j l = FillingAll l.samples l.lengths l.totals l.fn.o l.initial.out l.out l.q l.j
