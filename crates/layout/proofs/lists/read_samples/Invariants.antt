-- `layout::lists::read_samples`: after i turns the first i samples stand in `out`.
use Rattle.layout.specs.Format.{read_sample}
use Rattle.layout.proofs.ListLoop.{Filled}
use Rattle.layout.proofs.lists.read_samples.Given as goal

abbrev pub invariant-loop-i : goal.invariant-loop-i
invariant-loop-i l = Filled l.initial.out 4 read_sample l.sheet 32 l.i l.out
