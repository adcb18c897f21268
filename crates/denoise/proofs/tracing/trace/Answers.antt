-- `denoise::tracing::trace`: each turn fills in the segments that a walk gives.
use Rattle.std.proofs.Common.{refl, ◌∙◌}
use Rattle.denoise.proofs.TraceLoop.{tracing_first, given-fills, tracing_less, tracing_turn, traced}
use Rattle.denoise.proofs.tracing.trace.Goals as goal

pub loop-r-init : goal.loop-r-init
loop-r-init c = tracing_first _ _ _ c.args.series.limited _ _ refl refl c.start-from.ensures

pub portion-w-requires-clause-stands : goal.portion-w-requires-clause-stands
portion-w-requires-clause-stands c = c.loop-r.invariant.stands

pub fill_all-o-requires-clause-fills_all : goal.fill_all-o-requires-clause-fills_all
fill_all-o-requires-clause-fills_all c = given-fills _ _ _ c.args.series.limited c.loop-r.invariant c.portion-w.result c.portion-w.ensures.answer c.portion-w.ensures.lengths c.portion-w.ensures.totals

pub returns-in-None : goal.returns-in-None
returns-in-None c = c.fill_all-o.ensures.out ∙ traced _ _ _ c.args.series.limited c.loop-r.invariant c.portion-w.result c.portion-w.ensures.answer c.portion-w.ensures.lengths c.portion-w.ensures.totals c.in-None.is c.requires.out_room

pub loop-r-smaller : goal.loop-r-smaller
loop-r-smaller c = tracing_less _ _ _ c.args.series.limited c.loop-r.invariant c.portion-w.result c.portion-w.ensures.answer c.portion-w.ensures.lengths c.portion-w.ensures.totals _ c.in-Some.is

pub loop-r-preserved : goal.loop-r-preserved
loop-r-preserved c =
    rw (c.fill_all-o.ensures.answer, c.fill_all-o.ensures.out) (tracing_turn _ _ _ c.args.series.limited c.loop-r.invariant c.portion-w.result c.portion-w.ensures.answer c.portion-w.ensures.lengths c.portion-w.ensures.totals _ c.in-Some.is)
