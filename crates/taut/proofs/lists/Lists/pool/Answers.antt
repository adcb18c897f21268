use Rattle.std.proofs.Common.{◌∙◌, sym, subst, arith, ◌-◌}
use Rattle.taut.specs.Slopes.{Light, side_of, segment_of}
use Rattle.taut.specs.Stack.{entries, Divided}
use Rattle.taut.specs.declared.slopes.Edge.{Edge}
use Rattle.taut.proofs.PoolLoop.{Pooling, tested, merge_is, pool-light, pool-none, last-light, pool_steep, pool-merge}
use Rattle.taut.proofs.StackLaws.{edges-written, divided-less}
use Rattle.taut.proofs.lists.Lists.pool.Goals as goal
use Rattle.taut.proofs.lists.Lists.pool.Goals.{else-loop-t-test, then-loop-t-test+then-steeper}

pub steeper-requires-clause-g_light : goal.steeper-requires-clause-g_light
steeper-requires-clause-g_light g c = subst Light (sym c.entry-g.ensures) (last-light _ _ _ c.loop-t.invariant.pooling c.loop-t-test.true)

pub steeper-requires-clause-x_light : goal.steeper-requires-clause-x_light
steeper-requires-clause-x_light g c = pool-light _ _ _ c.loop-t.invariant.pooling

pub merge-x-requires-clause-g_light : goal.merge-x-requires-clause-g_light
merge-x-requires-clause-g_light g c = subst Light (sym c.entry-g.ensures) (last-light _ _ _ c.loop-t.invariant.pooling c.loop-t-test.true)

pub merge-x-requires-clause-x_light : goal.merge-x-requires-clause-x_light
merge-x-requires-clause-x_light g c = pool-light _ _ _ c.loop-t.invariant.pooling

pub loop-t-preserved : goal.loop-t-preserved
loop-t-preserved g c =
    let σ = side_of g.S.Side.low in
    let A = entries c.args.self.now in
    let t = c.loop-t.t in
    let x = c.loop-t.x in
    subst (λ (y : Edge). record {
      pooling : Pooling A σ c.args.m c.args.top (segment_of c.args.edge) (t - 1) (segment_of y);
      divided : Divided (t - 1) c.args.self.now.divisors.now y.n y.len;
    }) (sym (merge_is c.entry-g.ensures x c.merge-x.ensures)) (record {
      pooling = pool-merge A σ c.args.m c.loop-t.invariant.pooling c.loop-t-test.true
          (tested c.entry-g.ensures x g.S.Side.low c.steeper.ensures c.if-steeper.false);
      divided = divided-less c.args.self.now.lengths.now c.args.self.now.divisors.now t x.n x.len c.loop-t.invariant.divided;
    })

pub returns-clause-chain : goal.returns-clause-chain
returns-clause-chain g c =
    let low = g.S.Side.low in
    let y = c.args.self.now in
    let x = c.loop-t.x in
    let P = c.loop-t.invariant.pooling in
    edges-written y.lengths.now y.divisors.now y.totals.now c.loop-t.t x.len x.n x.total c.write.ensures.lengths c.write.ensures.divisors c.write.ensures.totals
    c.args.m P.from (omega (arith, P.upto, c.requires.lengths_room)) c.loop-t.invariant.divided (omega (arith, P.upto, c.requires.totals_room))
    ∙ (elim c.loop-t-test.branch [
      | else-loop-t-test w ↦ pool-none (entries y) (side_of low) c.args.m P w.loop-t-test.false
      | then-loop-t-test+then-steeper w ↦ pool_steep (entries y) (side_of low) c.args.m P w.loop-t-test.true
          (tested w.entry-g.ensures x low w.steeper.ensures w.if-steeper.true)
    ])
