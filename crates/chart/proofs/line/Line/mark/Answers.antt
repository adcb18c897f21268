-- `chart::line::Line::mark`: a segment further.
use mathlib.Core.Path.{sym, ap, ◌∙◌}
use native.Mathlib.Numerals.{add-one}
use native.Mathlib.Omega.{arith}
use lib.ListN.{drop_of_length-le}
use Rattle.chart.specs.Chart.{mark_from, or_13}
use Rattle.chart.proofs.LookupLaws.{mark_inside, mark_beyond}
use Rattle.chart.proofs.line.Line.mark.Goals as goal

pub returns-then-i-length : goal.returns-then-i-length
returns-then-i-length c =
    let g = c.args.self in
    let m = mark_inside g.lengths.now g.totals.now g.drawable.paired c.loop-k.k c.loop-k-test.true c.loop-k.i c.if-i-length.true in
    rw c.mark_in.ensures (ap or_13 (sym m ∙ c.loop-k.invariant))

pub loop-k-preserved : goal.loop-k-preserved
loop-k-preserved c =
    let g = c.args.self in
    let m = mark_beyond g.lengths.now g.totals.now g.drawable.paired c.loop-k.k c.loop-k-test.true c.loop-k.i c.if-i-length.false in
    rw (add-one c.loop-k.k) (sym m ∙ c.loop-k.invariant)

pub returns : goal.returns
unfolding mark_from
returns c = ap or_13 (rw (drop_of_length-le c.args.self.lengths.now {i = c.loop-k.k} (omega arith)) at c.loop-k.invariant)
