-- `sweep::forward::outset`: the first look, then the others.
use Rattle.std.proofs.Common.{arith, ◌≡◌, sym, ap, subst, List, ℕ, ◌+◌, ◌<◌, length, ℤ}
use Rattle.integers.specs.Bounds.{Upto}
use Rattle.optimality.specs.Series.{Limited}
use Rattle.sweep.specs.Stretch.{first_of, Looks}
use Rattle.sweep.specs.Forward.{Passes}
use Rattle.sweep.specs.declared.stretch.Stretch.{Stretch}
use Rattle.sweep.specs.declared.stretch.Looked.TheVariants as Looked
use Rattle.sweep.proofs.StretchLaws.{first-held}
use Rattle.sweep.proofs.ForwardLaws.{none_passed, passed, comes-from}
use Rattle.sweep.proofs.forward.outset.Goals as goal

-- ---- the segment of one minute
module _ {ys : List ℤ} {L i : ℕ} {u : ℤ} (W : Limited ys L) (h : i < length ys) (d : Upto L u) {one : Stretch} (e : one ≡ first_of ys L i u) where
  none : Passes ys L i (first_of ys L i u) one
  none = subst (Passes ys L i (first_of ys L i u)) (sym e) (none_passed (first-held ys L W i u h d.upto))

  count : one.n ≡ 1
  count = ap (λ c. c.n) e

  -- another minute is there
  module _ (l : i + 1 < length ys) where
    before-end : i + one.n < length ys
    before-end = omega (arith, l, count)

    went : (o : Stretch) → Looks ys L i one (Looked.On o) → Passes ys L i one o
    went o t = passed W none.held before-end o t

pub returns-then-o-series : goal.returns-then-o-series
returns-then-o-series c =
    let r = c.requires in (
      none c.args.series.limited r.i_in_bounds r.dual_bound c.first-c.ensures,
      omega (arith, c.if-o-series.true, r.i_in_bounds, count c.args.series.limited r.i_in_bounds r.dual_bound c.first-c.ensures),
    )

pub look-requires-clause-held : goal.look-requires-clause-held
look-requires-clause-held c = (none c.args.series.limited c.requires.i_in_bounds c.requires.dual_bound c.first-c.ensures).held

pub onward-requires : goal.onward-requires
onward-requires c =
    let r = c.requires in
    record { held = (went c.args.series.limited r.i_in_bounds r.dual_bound c.first-c.ensures c.if-o-series.false _ c.in-On.ensures).held }

pub returns-in-Fall : goal.returns-in-Fall
returns-in-Fall c =
    let r = c.requires in (
      none c.args.series.limited r.i_in_bounds r.dual_bound c.first-c.ensures,
      (before-end c.args.series.limited r.i_in_bounds r.dual_bound c.first-c.ensures c.if-o-series.false, c.in-Fall.ensures),
    )

pub returns-in-Rise : goal.returns-in-Rise
returns-in-Rise c =
    let r = c.requires in (
      none c.args.series.limited r.i_in_bounds r.dual_bound c.first-c.ensures,
      (before-end c.args.series.limited r.i_in_bounds r.dual_bound c.first-c.ensures c.if-o-series.false, c.in-Rise.ensures),
    )

pub returns-in-On : goal.returns-in-On
returns-in-On c =
    let r = c.requires in
    comes-from (none c.args.series.limited r.i_in_bounds r.dual_bound c.first-c.ensures) c.onward.result
    (comes-from (went c.args.series.limited r.i_in_bounds r.dual_bound c.first-c.ensures c.if-o-series.false _ c.in-On.ensures) c.onward.result c.onward.ensures)
