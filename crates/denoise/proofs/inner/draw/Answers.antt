-- `denoise::inner::draw`: no walk spends so large a budget, so it comes to the end.
use Rattle.std.proofs.Common.{arith, ◌∙◌}
use Rattle.denoise.proofs.WalkedLine.{starts-there, all-drawn, all-filled}
use Rattle.denoise.proofs.inner.draw.Goals as goal

pub walk-w-requires-clause-starts : goal.walk-w-requires-clause-starts
walk-w-requires-clause-starts c = starts-there _ _ c.args.running c.args.series.limited c.step_1-from.ensures.state

pub returns-clause-answer : goal.returns-clause-answer
returns-clause-answer c = all-drawn _ _ c.args.running c.args.series.limited c.step_1-from.ensures.state (omega arith) c.walk-w.result c.walk-w.ensures.answer

pub returns-clause-lengths : goal.returns-clause-lengths
returns-clause-lengths c =
    c.walk-w.ensures.lengths
    ∙ all-filled _ _ c.args.running c.args.series.limited c.step_1-from.ensures.state (omega arith) c.walk-w.result c.walk-w.ensures.answer (λ g. g.len) c.args.lengths.now c.requires.lengths_room

pub returns-clause-totals : goal.returns-clause-totals
returns-clause-totals c =
    c.walk-w.ensures.totals
    ∙ all-filled _ _ c.args.running c.args.series.limited c.step_1-from.ensures.state (omega arith) c.walk-w.result c.walk-w.ensures.answer (λ g. g.total) c.args.totals.now c.requires.totals_room
