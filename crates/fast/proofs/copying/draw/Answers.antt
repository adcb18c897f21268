-- `fast::copying::draw`: the line in place of the first segments leaves what the lists held before.
use Rattle.fast.proofs.RestLaws.{first-there, again, some_spent}
use Rattle.fast.proofs.copying.draw.Goals as goal

pub finish-requires-clause-lengths_drawn : goal.finish-requires-clause-lengths_drawn
finish-requires-clause-lengths_drawn c =
    let e = c.in-Err.ensures in
    first-there _ _ c.args.series.limited c.in-Err.p (some_spent e.answer) (λ g. g.len) _ _ c.requires.lengths_room e.lengths

pub finish-requires-clause-totals_drawn : goal.finish-requires-clause-totals_drawn
finish-requires-clause-totals_drawn c =
    let e = c.in-Err.ensures in
    first-there _ _ c.args.series.limited c.in-Err.p (some_spent e.answer) (λ g. g.total) _ _ c.requires.totals_room e.totals

pub returns-in-Err-clause-lengths : goal.returns-in-Err-clause-lengths
returns-in-Err-clause-lengths c =
    let e = c.in-Err.ensures in
    again _ _ c.args.series.limited c.in-Err.p (some_spent e.answer) (λ g. g.len) _ _ c.requires.lengths_room e.lengths _ c.finish.ensures.lengths

pub returns-in-Err-clause-totals : goal.returns-in-Err-clause-totals
returns-in-Err-clause-totals c =
    let e = c.in-Err.ensures in
    again _ _ c.args.series.limited c.in-Err.p (some_spent e.answer) (λ g. g.total) _ _ c.requires.totals_room e.totals _ c.finish.ensures.totals
