-- `fused_lasso::threshold::threshold`: the segments of one more portion are put.
use mathlib.Core.Path.{refl}
use native.Mathlib.Omega.{arith}
use Rattle.fused_lasso.proofs.PortionLoop.{going_first, few-final, given-takes, going_turn, gone}
use Rattle.fused_lasso.proofs.threshold.threshold.Goals as goal

pub loop-next-init : goal.loop-next-init
loop-next-init c = going_first _ _ _ _ _ c.args.series.limited _ _ refl refl c.requires.lengths_room c.requires.totals_room c.start-from.ensures

pub put_all-m-requires-clause-takes : goal.put_all-m-requires-clause-takes
put_all-m-requires-clause-takes c =
    let e = c.portion-w.ensures in
    given-takes _ _ _ _ _ c.args.series.limited c.loop-next.invariant c.portion-w.result (e.answer, (e.lengths, e.totals))

pub loop-next-preserved : goal.loop-next-preserved
loop-next-preserved c =
    let e = c.portion-w.ensures in
    let p = c.put_all-m.ensures in
    going_turn _ _ _ _ _ c.args.series.limited c.loop-next.invariant c.portion-w.result (e.answer, (e.lengths, e.totals)) (p.answer, (p.lengths, p.totals)) _ c.in-Some.is

pub overflow_cast-result : goal.overflow_cast-result
overflow_cast-result c =
    let e = c.portion-w.ensures in
    let p = c.put_all-m.ensures in
    let W = c.args.series.limited in
    let n = gone _ _ _ _ _ W c.loop-next.invariant c.portion-w.result (e.answer, (e.lengths, e.totals)) (p.answer, (p.lengths, p.totals)) c.in-None.is in
    omega (arith, few-final _ _ c.args.floor W, n.0)

pub returns-in-None : goal.returns-in-None
returns-in-None c =
    let e = c.portion-w.ensures in
    let p = c.put_all-m.ensures in
    let n = gone _ _ _ _ _ c.args.series.limited c.loop-next.invariant c.portion-w.result (e.answer, (e.lengths, e.totals)) (p.answer, (p.lengths, p.totals)) c.in-None.is in
    record { answer = n.0; lengths = n.1.0; totals = n.1.1 }
