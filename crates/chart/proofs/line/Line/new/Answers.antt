-- `chart::line::Line::new`: a line that passes the shape check can be drawn.
use mathlib.Core.Path.{sym, ap, ◌∙◌}
use Rattle.level.specs.Answer.{answer_of}
use Rattle.chart.proofs.DrawableLaws.{passed}
use Rattle.chart.proofs.line.Line.new.Goals as goal

pub invariant_of-result : goal.invariant_of-result
invariant_of-result c =
    let g = c.args in
    record { drawable = (passed g.n g.lengths.now g.totals.now (sym c.shape.ensures.answer ∙ ap answer_of c.in_ok-shape.was)).drawable }
