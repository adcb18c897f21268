use Rattle.std.proofs.Common.{◌-◌, length}
use Rattle.taut.specs.Tube.{data_of}
use Rattle.taut.specs.Stack.{entries, SameLists}
use Rattle.taut.specs.String.{Kept}
use Rattle.taut.proofs.inner.line.Given as goal

abbrev pub invariant-loop-s : goal.invariant-loop-s
invariant-loop-s l = record {
  kept : Kept (data_of l.input) (entries l.lists) l.s;
  same : SameLists l.initial.lists l.lists;
}

abbrev pub decreases-loop-s : goal.decreases-loop-s
decreases-loop-s l = length l.input.samples.now - l.s.at.k
