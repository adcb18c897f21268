-- Segments k on are left: what they give from the outline so far is what the whole line gives.
use Rattle.checker.specs.Outline.{begin, joined}
use Rattle.checker.proofs.FoldLaws.{Left}
use Rattle.checker.proofs.outline.Outline.whole.Given as goal

abbrev pub invariant-loop-k : goal.invariant-loop-k
invariant-loop-k l = Left joined begin l.lengths l.totals l.k l.o
