-- `chart::line::Line::segment`: the segment's minutes are among those of the line.
use mathlib.Core.Path.{◌≡◌, ap}
use mathlib.Core.List.{List}
use native.Mathlib.Omega.{arith}
use Prim.Native.Nat.{ℕ, suc, ◌-◌, ◌+◌, ◌<◌, ◌≤◌}
use lib.ListN.{length, get_or, take}
use Rattle.level.specs.declared.Level.{Level}
use Rattle.chart.specs.Chart.{segment_at}
use Rattle.chart.specs.Drawable.{sum}
use Rattle.chart.proofs.SumLaws.{sum-next, sum-part}
use Rattle.chart.proofs.LookupLaws.{segment-found, segment-lacks}
use Rattle.chart.proofs.line.Line.segment.Goals.{then-index-eq0-via-then-index-eq0, then-index-eq0-via-else-index-eq0+then-index-self}
use Rattle.chart.proofs.line.Line.segment.Goals as goal

pub returns-then-index-eq0 : goal.returns-then-index-eq0
unfolding segment_at
returns-then-index-eq0 c =
    elim c.then-index-eq0.branch [
      | then-index-eq0-via-then-index-eq0 w ↦ rw w.if-index-eq0.true
      | then-index-eq0-via-else-index-eq0+then-index-self w ↦ rw (segment-lacks c.args.self.lengths.now c.args.self.totals.now 0 c.args.index w.if-index-self.true)
    ]

within : (ns : List ℕ) (k : ℕ) → k < length ns → sum ns ≤ 65536 → sum (take k ns) + get_or ns k 0 ≤ 65536
within ns k h s = omega (arith, sum-next ns k h, sum-part ns (suc k))

pub overflow_add-result : goal.overflow_add-result
overflow_add-result c =
    let g = c.args.self in
    let k = c.args.index - 1 in
    let m = within g.lengths.now k (omega (arith, c.if-index-eq0.false, c.if-index-self.false)) g.drawable.short in
    record { fits = omega (arith, c.minutes-before.ensures, m) }

pub overflow_add-result-2 : goal.overflow_add-result-2
overflow_add-result-2 c =
    let g = c.args.self in
    let k = c.args.index - 1 in
    let m = within g.lengths.now k (omega (arith, c.if-index-eq0.false, c.if-index-self.false)) g.drawable.short in
    record { fits = omega (arith, c.minutes-before.ensures, ap (λ (a : Level). a.length) c.level-a.ensures, m) }

pub returns : goal.returns
returns c =
    let g = c.args.self in
    let k = c.args.index - 1 in
    let e : c.args.index ≡ suc k = omega (arith, c.if-index-eq0.false) in
    rw (e, segment-found g.lengths.now g.totals.now k (omega (arith, c.if-index-self.false)) g.drawable.paired, c.plotted.ensures, c.level-a.ensures, c.minutes-before.ensures)
