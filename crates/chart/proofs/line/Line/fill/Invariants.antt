-- Of each list what is left to be written from segment k on gives the whole.
use Rattle.std.proofs.Common.{◌≡◌, take}
use Rattle.chart.specs.Drawable.{sum}
use Rattle.chart.proofs.FillLoop.{Left}
use Rattle.chart.proofs.line.Line.fill.Given as goal

abbrev pub invariant-loop-k : goal.invariant-loop-k
invariant-loop-k l = record {
  before : l.before ≡ sum (take l.k l.self.lengths.now);
  firsts : Left (λ s. s.first) l.self.lengths.now l.self.totals.now l.fn.firsts l.firsts l.before l.k;
  lasts : Left (λ s. s.last) l.self.lengths.now l.self.totals.now l.fn.lasts l.lasts l.before l.k;
  levels : Left (λ s. s.level) l.self.lengths.now l.self.totals.now l.fn.levels l.levels l.before l.k;
}
