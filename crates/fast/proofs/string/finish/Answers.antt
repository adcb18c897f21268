-- `fast::string::finish`: the taut string writes the rest behind the first segments. Of a plain series the lengths are the divisors.
use Rattle.std.proofs.Common.{arith}
use Rattle.fast.proofs.RestLaws.{no_more, asked, count, begins}
use Rattle.fast.proofs.string.finish.Goals as goal

pub draw-more-requires-clause-data_ok : goal.draw-more-requires-clause-data_ok
draw-more-requires-clause-data_ok c = asked _ _ c.args.series.limited c.args.p c.requires.leaves_off

pub overflow_add-result : goal.overflow_add-result
overflow_add-result c =
    let W = c.args.series.limited in
    let P = c.requires.leaves_off in
    record { fits = omega (arith, count _ _ W c.args.p P c.draw-more.ensures.answer, no_more _ _ W c.args.p P, W.few) }

pub returns-clause-answer : goal.returns-clause-answer
returns-clause-answer c = count _ _ c.args.series.limited c.args.p c.requires.leaves_off c.draw-more.ensures.answer

pub returns-clause-lengths : goal.returns-clause-lengths
returns-clause-lengths c =
    let r = c.requires in
    let d = c.draw-more.ensures in
    begins _ _ c.args.series.limited c.args.p r.leaves_off d.answer (λ g. g.len) c.args.lengths.now _ _ r.lengths_room r.lengths_drawn d.lengths

pub returns-clause-totals : goal.returns-clause-totals
returns-clause-totals c =
    let r = c.requires in
    let d = c.draw-more.ensures in
    begins _ _ c.args.series.limited c.args.p r.leaves_off d.answer (λ g. g.total) c.args.totals.now _ _ r.totals_room r.totals_drawn d.totals
