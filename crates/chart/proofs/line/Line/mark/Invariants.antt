-- The mark i minutes after the start of segment k is the mark sought.
use Rattle.std.proofs.Common.{◌≡◌, drop}
use Rattle.chart.specs.Chart.{mark_from, mark_at}
use Rattle.chart.specs.Drawable.{level_before}
use Rattle.chart.proofs.line.Line.mark.Given as goal

abbrev pub invariant-loop-k : goal.invariant-loop-k
invariant-loop-k l =
    mark_from (level_before l.self.lengths.now l.self.totals.now l.k) (drop l.k l.self.lengths.now) (drop l.k l.self.totals.now) l.i ≡ mark_at l.self.lengths.now l.self.totals.now l.minute
