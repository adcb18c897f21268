use Rattle.std.proofs.Common.{◌∙◌, ap, sym, arith}
use Rattle.taut.proofs.InputLaws.{minutes-upto}
use Rattle.taut.proofs.FallLoop.{m-short, near-further, at-is-small, near-is, near_small, far-small, rested, fell}
use Rattle.taut.proofs.string.falls.Goals as goal

pub entry-g-requires-clause-j_bound : goal.entry-g-requires-clause-j_bound
entry-g-requires-clause-j_bound g c =
    let x = c.args.input in
    let I = c.loop-d.invariant in
    omega (arith, m-short x _ _ I.falling I.full, minutes-upto x)

pub far-far-requires : goal.far-far-requires
far-far-requires g c =
    let x = c.args.input in
    let I = c.loop-d.invariant in
    at-is-small x _ _ I.falling I.full

pub under-requires-clause-a_small : goal.under-requires-clause-a_small
under-requires-clause-a_small g c =
    let x = c.args.input in
    let I = c.loop-d.invariant in
    far-small x _ _ I.falling I.full c.far-far.ensures

pub under-requires-clause-b_small : goal.under-requires-clause-b_small
under-requires-clause-b_small g c =
    let x = c.args.input in
    let I = c.loop-d.invariant in
    near_small x _ _ I.falling I.full
    (near-is x _ _ I.falling I.full c.entry-g.ensures c.level-near.ensures)

pub returns-then-not-under-clause-kept : goal.returns-then-not-under-clause-kept
returns-then-not-under-clause-kept g c =
    let x = c.args.input in
    let I = c.loop-d.invariant in
    rested x _ _ I.falling I.full
    (near-is x _ _ I.falling I.full c.entry-g.ensures c.level-near.ensures) c.far-far.ensures c.under.ensures
    c.if-not-under.true c.settle.ensures

pub beyond-requires-clause-at_small : goal.beyond-requires-clause-at_small
beyond-requires-clause-at_small g c =
    let x = c.args.input in
    let I = c.loop-d.invariant in
    at-is-small x _ _ I.falling I.full

pub beyond-requires-clause-v_small : goal.beyond-requires-clause-v_small
beyond-requires-clause-v_small g c =
    let x = c.args.input in
    let I = c.loop-d.invariant in
    near_small x _ _ I.falling I.full
    (near-is x _ _ I.falling I.full c.entry-g.ensures c.level-near.ensures)

pub loop-d-smaller : goal.loop-d-smaller
loop-d-smaller g c =
    let x = c.args.input in
    let I = c.loop-d.invariant in
    let near = near-is x _ _ I.falling I.full c.entry-g.ensures c.level-near.ensures in
    omega (arith, ap (λ v. v.k) c.beyond.ensures, ap (λ v. v.k) near, near-further x _ _ I.falling I.full, I.falling.fallen.from)

pub loop-d-preserved : goal.loop-d-preserved
loop-d-preserved g c =
    let x = c.args.input in
    let I = c.loop-d.invariant in
    let near = near-is x _ _ I.falling I.full c.entry-g.ensures c.level-near.ensures in
    let k = ap (λ v. v.k) c.beyond.ensures in
    record {
      falling = fell x _ _ I.falling I.full near c.far-far.ensures c.under.ensures c.if-not-under.false c.beyond.ensures;
      full = I.full ∙ sym k;
      minute = k ∙ I.minute;
    }
