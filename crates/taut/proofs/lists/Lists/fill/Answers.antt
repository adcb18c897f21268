use Rattle.std.proofs.Common.{◌∙◌, ap, sym, subst, arith, ◌<◌, ◌-◌, length, add-one}
use Rattle.taut.specs.Slopes.{side_of, segment_of}
use Rattle.taut.specs.Stack.{entries, edges, LightPool}
use Rattle.taut.proofs.InputLaws.{plain-unit, valid, limited, minutes-upto}
use Rattle.taut.proofs.StackLaws.{room-again, lists-again, divided}
use Rattle.taut.proofs.FillLoop.{fill-short, fill-light, fill-next, fill-last}
use Rattle.taut.proofs.lists.Lists.fill.Given.{Over}
use Rattle.taut.proofs.lists.Lists.fill.Goals as goal

-- the chain has room for one edge more
module _ (g : Over) (c : goal.After-unit g) where
  short : c.loop-e.t < length c.args.input.samples.now
  short = omega (arith, fill-short _ _ _ _ _ c.loop-e.invariant.filling, c.loop-e-test.true, c.requires.h_in_bounds)

pub pool-t-requires-clause-top_bound : goal.pool-t-requires-clause-top_bound
pool-t-requires-clause-top_bound g c = omega (arith, short g c, minutes-upto c.args.input)

pub pool-t-requires-clause-lengths_room : goal.pool-t-requires-clause-lengths_room
pool-t-requires-clause-lengths_room g c = omega (arith, short g c, (room-again c.loop-e.invariant.same.room c.requires.room).lengths)

pub pool-t-requires-clause-divided : goal.pool-t-requires-clause-divided
pool-t-requires-clause-divided g c =
    divided (room-again c.loop-e.invariant.same.room c.requires.room) (short g c)
    (λ none. ap (λ x. x.n) c.unit.ensures ∙ plain-unit c.args.input none (side_of g.S.Side.low) c.loop-e.e ∙ sym (ap (λ x. x.len) c.unit.ensures))

pub pool-t-requires-clause-totals_room : goal.pool-t-requires-clause-totals_room
pool-t-requires-clause-totals_room g c = omega (arith, short g c, (room-again c.loop-e.invariant.same.room c.requires.room).totals)

pub pool-t-requires-clause-chain_light : goal.pool-t-requires-clause-chain_light
pool-t-requires-clause-chain_light g c =
    let x = c.args.input in
    subst (LightPool (side_of g.S.Side.low) (edges (entries c.loop-e.self) c.args.p.m (c.loop-e.t - c.args.p.m))) (sym (ap segment_of c.unit.ensures))
    (fill-light _ _ _ _ _ c.loop-e.invariant.filling (valid x) c.loop-e-test.true c.requires.h_in_bounds (limited x) (minutes-upto x))

pub loop-e-preserved : goal.loop-e-preserved
loop-e-preserved g c =
    let E = c.pool-t.ensures in
    record {
      filling = rw (add-one c.loop-e.e)
          (fill-next _ _ _ _ _ c.loop-e.invariant.filling (valid c.args.input) c.loop-e-test.true c.requires.h_in_bounds (ap segment_of c.unit.ensures) E.top_above E.chain E.below_kept);
      same = lists-again c.loop-e.invariant.same E.same;
    }

pub returns-clause-chain : goal.returns-clause-chain
returns-clause-chain g c = fill-last _ _ _ _ _ c.loop-e.invariant.filling c.loop-e-test.false
