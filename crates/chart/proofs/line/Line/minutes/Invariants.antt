-- n is the sum so far.
use Rattle.std.proofs.Common.{◌≡◌, take}
use Rattle.chart.specs.Drawable.{sum}
use Rattle.chart.proofs.line.Line.minutes.Given as goal

abbrev pub invariant-loop-length : goal.invariant-loop-length
invariant-loop-length l = l.n ≡ sum (take l.length-index l.length-items)
