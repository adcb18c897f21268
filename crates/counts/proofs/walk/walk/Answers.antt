-- `counts::walk::walk`: every turn counts the line of one series, among no more than a million.
use mathlib.Core.Path.{◌≡◌, sym, ◌∙◌}
use native.Mathlib.Numerals.{add-one}
use native.Mathlib.Omega.{arith}
use Prim.Native.Nat.{suc, ◌^◌, ◌<◌}
use lib.ListN.{length}
use Rattle.counts.specs.Known.{most-series}
use Rattle.counts.proofs.TurnLaws.{turned-first, turned-all, turned_range, turned-limited, turned-some, turned-entry, turned-small, turned_more}
use Rattle.counts.proofs.walk.walk.Goals as goal

pub pow-all-requires : goal.pow-all-requires
pow-all-requires c = rw (add-one c.args.top) (omega (arith, most-series c.args.top _ c.requires.countable.low c.requires.countable.few))

pub loop-init : goal.loop-init
loop-init c =
    let a = c.args in
    turned-first a.top a.smoothing (length a.samples.now) c.requires.all_zero (rw c.requires.same_length at (c.fill.ensures.after (λ y e. e)))

pub invariant_of-draw : goal.invariant_of-draw
invariant_of-draw c = record { limited = turned-limited _ _ _ c.requires.countable c.loop.invariant }

-- ---- where the line is counted
pub overflow_sub-counts : goal.overflow_sub-counts
overflow_sub-counts c = omega (arith, turned-some _ _ _ c.requires.countable c.loop.invariant c.draw-m.result c.draw-m.ensures.answer)

pub bounds-counts-m : goal.bounds-counts-m
bounds-counts-m c = turned-entry _ _ _ c.requires.countable c.loop.invariant c.draw-m.result c.draw-m.ensures.answer

pub overflow_add-counts : goal.overflow_add-counts
overflow_add-counts c = omega (arith, turned-small _ _ _ c.requires.countable c.loop.invariant c.draw-m.result c.draw-m.ensures.answer)

pub bounds-counts-m-in-loop : goal.bounds-counts-m-in-loop
bounds-counts-m-in-loop c = turned-entry _ _ _ c.requires.countable c.loop.invariant c.draw-m.result c.draw-m.ensures.answer

pub advance-requires-clause-in_range : goal.advance-requires-clause-in_range
advance-requires-clause-in_range c = turned_range _ _ _ c.requires.countable c.loop.invariant

pub loop-preserved : goal.loop-preserved
loop-preserved c =
    let t = c.loop.invariant in
    let kept = c.draw-m.auto in
    let all = rw (add-one c.args.top) at c.pow-all.ensures in
    let more : c.loop.counter < suc c.args.top ^ length c.args.samples.now = omega (arith, all, c.loop-test.true) in
    rw c.advance.ensures
    (turned_more _ _ _ c.requires.countable t c.draw-m.result c.draw-m.ensures.answer more (kept.lengths ∙ t.lengths) (kept.totals ∙ t.totals))

-- ---- once through all
pub returns : goal.returns
returns c =
    let t = c.loop.invariant in
    let all = rw (add-one c.args.top) at c.pow-all.ensures in
    let e : c.loop.counter ≡ suc c.args.top ^ length c.args.samples.now = omega (arith, all, t.upto, c.loop-test.false) in
    let r = turned-all _ _ _ e t in
    record { samples_kept = r.0 ∙ sym c.requires.all_zero; counts = r.1 }
