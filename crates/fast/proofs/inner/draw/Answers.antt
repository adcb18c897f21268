-- `fast::inner::draw`: the ten steps, and behind them the taut string.
use Rattle.fast.proofs.RestLaws.{first-there, all_copied, some_spent}
use Rattle.fast.proofs.inner.draw.Goals as goal

pub returns-in-Ok-clause-lengths : goal.returns-in-Ok-clause-lengths
returns-in-Ok-clause-lengths c = all_copied (λ g. g.len) _ c.args.lengths.now c.in-Ok.ensures.answer c.in-Ok.ensures.lengths

pub returns-in-Ok-clause-totals : goal.returns-in-Ok-clause-totals
returns-in-Ok-clause-totals c = all_copied (λ g. g.total) _ c.args.totals.now c.in-Ok.ensures.answer c.in-Ok.ensures.totals

pub finish-requires-clause-lengths_drawn : goal.finish-requires-clause-lengths_drawn
finish-requires-clause-lengths_drawn c =
    let e = c.in-Err.ensures in
    first-there _ _ c.args.series.limited c.in-Err.p (some_spent e.answer) (λ g. g.len) _ _ c.requires.lengths_room e.lengths

pub finish-requires-clause-totals_drawn : goal.finish-requires-clause-totals_drawn
finish-requires-clause-totals_drawn c =
    let e = c.in-Err.ensures in
    first-there _ _ c.args.series.limited c.in-Err.p (some_spent e.answer) (λ g. g.total) _ _ c.requires.totals_room e.totals
