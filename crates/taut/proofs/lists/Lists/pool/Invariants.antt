use Rattle.std.proofs.Common.{◌-◌}
use Rattle.taut.specs.Slopes.{side_of, segment_of}
use Rattle.taut.specs.Stack.{entries, Divided}
use Rattle.taut.proofs.PoolLoop.{Pooling}
use Rattle.taut.proofs.lists.Lists.pool.Given as goal

abbrev pub invariant-loop-t : goal.invariant-loop-t
invariant-loop-t g l = record {
  pooling : Pooling (entries l.self) (side_of g.S.Side.low) l.m l.top (segment_of l.fn.edge) l.t (segment_of l.x);
  divided : Divided l.t l.self.divisors.now l.x.n l.x.len;
}

abbrev pub decreases-loop-t : goal.decreases-loop-t
decreases-loop-t g l = l.t - l.m
