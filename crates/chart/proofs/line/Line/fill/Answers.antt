-- `chart::line::Line::fill`: a segment more in each list.
use mathlib.Core.Path.{◌≡◌, refl, ap}
use mathlib.Core.List.{List}
use native.Mathlib.Numerals.{add-one}
use native.Mathlib.Omega.{arith}
use Prim.Native.Nat.{ℕ, suc, ◌+◌, ◌<◌, ◌≤◌}
use lib.ListN.{length, take}
use lib.IntN.{ℤ}
use Rattle.level.specs.declared.Level.{Level}
use Rattle.chart.specs.Drawable.{sum, nth}
use Rattle.chart.proofs.SumLaws.{sum-next, sum-part}
use Rattle.chart.proofs.FillLoop.{left-all, left-next, left-none}
use Rattle.chart.proofs.line.Line.fill.Goals as goal

pub loop-k-init : goal.loop-k-init
unfolding sum
loop-k-init c = record { before = omega arith; firsts = left-all _ _ _ _ c.requires.firsts_room; lasts = left-all _ _ _ _ c.requires.lasts_room; levels = left-all _ _ _ _ c.requires.levels_room }

-- the level a of segment k
module _ (ns : List ℕ) (ts : List ℤ) (k before : ℕ) (a : Level) (h : k < length ns) (b : before ≡ sum (take k ns)) (e : a ≡ nth ns ts k) where
  next : before + a.length ≡ sum (take (suc k) ns)
  next = omega (arith, ap (λ (a : Level). a.length) e, b, sum-next ns k h)

  within : sum ns ≤ 65536 → before + a.length ≤ 65536
  within s = omega (arith, next, sum-part ns (suc k), s)

pub overflow_add-firsts : goal.overflow_add-firsts
overflow_add-firsts c =
    let g = c.args.self in
    let w = within g.lengths.now g.totals.now c.loop-k.k c.loop-k.before c.level-a.result c.loop-k-test.true c.loop-k.invariant.before c.level-a.ensures g.drawable.short in
    record { fits = omega (arith, w) }

pub overflow_add-before : goal.overflow_add-before
overflow_add-before c =
    let g = c.args.self in
    let w = within g.lengths.now g.totals.now c.loop-k.k c.loop-k.before c.level-a.result c.loop-k-test.true c.loop-k.invariant.before c.level-a.ensures g.drawable.short in
    record { fits = omega (arith, w) }

pub loop-k-preserved : goal.loop-k-preserved
loop-k-preserved c =
    let g = c.args.self in
    let h = c.loop-k-test.true in
    let l = g.drawable.paired in
    let i = c.loop-k.invariant in
    let t = c.level-a.ensures in
    record {
      before = rw (add-one c.loop-k.k) (next g.lengths.now g.totals.now c.loop-k.k c.loop-k.before c.level-a.result h i.before t);
      firsts = left-next _ _ _ _ _ _ _ _ h l t refl i.firsts;
      lasts = left-next _ _ _ _ _ _ _ _ h l t refl i.lasts;
      levels = left-next _ _ _ _ _ _ _ _ h l t c.plotted.ensures i.levels;
    }

pub returns-clause-firsts : goal.returns-clause-firsts
returns-clause-firsts c = left-none _ _ _ _ _ _ _ (omega (arith, c.loop-k-test.false)) c.loop-k.invariant.firsts

pub returns-clause-lasts : goal.returns-clause-lasts
returns-clause-lasts c = left-none _ _ _ _ _ _ _ (omega (arith, c.loop-k-test.false)) c.loop-k.invariant.lasts

pub returns-clause-levels : goal.returns-clause-levels
returns-clause-levels c = left-none _ _ _ _ _ _ _ (omega (arith, c.loop-k-test.false)) c.loop-k.invariant.levels
