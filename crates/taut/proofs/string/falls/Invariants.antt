use Rattle.std.proofs.Common.{◌≡◌, ◌-◌}
use Rattle.taut.specs.Tube.{data_of}
use Rattle.taut.specs.Stack.{entries}
use Rattle.taut.specs.String.{Falling}
use Rattle.taut.proofs.string.falls.Given as goal

abbrev pub invariant-loop-d : goal.invariant-loop-d
invariant-loop-d g l = record {
  falling : Falling (data_of l.input) g.S.Side.low (entries l.lists) l.d;
  full : l.d.stack.e ≡ l.d.at.k;
  minute : l.d.at.k ≡ l.fn.q.at.k;
}

abbrev pub decreases-loop-d : goal.decreases-loop-d
decreases-loop-d g l = l.d.at.k - l.d.stack.i
