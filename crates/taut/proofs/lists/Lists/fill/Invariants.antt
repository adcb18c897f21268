use Rattle.taut.specs.Tube.{data_of}
use Rattle.taut.specs.Stack.{entries, SameLists}
use Rattle.taut.proofs.FillLoop.{Filling}
use Rattle.taut.proofs.lists.Lists.fill.Given as goal

abbrev pub invariant-loop-e : goal.invariant-loop-e
invariant-loop-e g l = record {
  filling : Filling (data_of l.input) g.S.Side.low (entries l.initial.self) l.p l.h (entries l.self) l.t l.e;
  same : SameLists l.initial.self l.self;
}
