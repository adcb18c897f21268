-- `sweep::stretch::look`: it is one step of the machine.
use Rattle.std.proofs.Common.{◌≡◌, sym, ◌∙◌, ap, ap₂, subst, Bool, true, false, List, ℕ, ◌+◌, ◌<◌, length, get_or, ℤ, pos, ◌+ℤ◌, ◌*ℤ◌, ◌-ℤ◌, w32, w64, to_z, of_z}
use Rattle.std.specs.Int.Signed.{lt_z}
use Rattle.integers.specs.Bounds.{Upto, Atmost, cleaning, fit, clean}
use Rattle.optimality.specs.Series.{Limited}
use Rattle.optimality.proofs.SmallNumbers.{sample-small}
use Rattle.sweep.specs.Stretch.{Held, NearBound, longer_of, renewed_of, Looks}
use Rattle.sweep.specs.declared.stretch.Bound.{Bound}
use Rattle.sweep.specs.declared.stretch.Stretch.{Stretch}
use Rattle.sweep.specs.declared.stretch.Looked.TheVariants as Looked
use Rattle.sweep.proofs.StretchLaws.{near, sum-small, low_small, high_small, min-near, max-near, falls, rises, goes_on}
use Rattle.sweep.proofs.stretch.look.Goals as goal

-- ---- the segment d with the sample, and the two sides of the tube
module _ {ys : List ℤ} {L i : ℕ} {c : Stretch} (W : Limited ys L) (H : Held ys L i c) (h : i + c.n < length ys) where
  abbrev y : ℤ
  y = get_or ys (i + c.n) (pos 0)

  sample : Upto 16777216 y
  sample = sample-small 16777216 ys W.samples _ h

  read : to_z w32 (of_z w32 y) ≡ y
  read = let s = sample in clean (search cleaning depth 12) tt

  limit : Atmost 1099511627776 L
  limit = record { atmost = W.smooth }

  abbrev e : Stretch
  e = longer_of c y

  module _ {d : Stretch} (told : d ≡ longer_of c (to_z w32 (of_z w32 y))) where
    is : d ≡ e
    is = told ∙ ap (longer_of c) read

    small : Upto 2199023255552 d.total
    small = rw is (sum-small ys L W i c H h)

    abbrev low : ℤ
    low = to_z w64 (of_z w64 (to_z w64 (of_z w64 d.total) -ℤ to_z w64 L))

    abbrev high : ℤ
    high = to_z w64 (of_z w64 (to_z w64 (of_z w64 d.total) +ℤ to_z w64 L))

    low_is : low ≡ e.total -ℤ pos L
    low_is =
        let t : low ≡ d.total -ℤ pos L = let u = small in let l = limit in clean (search cleaning depth 12) tt in
        t ∙ ap (λ d. d.total -ℤ pos L) is

    high_is : high ≡ e.total +ℤ pos L
    high_is =
        let t : high ≡ d.total +ℤ pos L = let u = small in let l = limit in clean (search cleaning depth 12) tt in
        t ∙ ap (λ d. d.total +ℤ pos L) is

    total_is : to_z w64 (of_z w64 d.total) ≡ e.total
    total_is = let t : to_z w64 (of_z w64 d.total) ≡ d.total = let u = small in clean (search cleaning depth 12) tt in t ∙ ap (λ d. d.total) is

    low-fits : Upto 3298534883328 low
    low-fits = rw low_is (low_small ys L W i c H h)

    high-fits : Upto 3298534883328 high
    high-fits = rw high_is (high_small ys L W i c H h)

    near-min : NearBound d.min
    near-min = subst (λ d. NearBound d.min) (sym is) (min-near ys L W i c H h)

    near-max : NearBound d.max
    near-max = subst (λ d. NearBound d.max) (sym is) (max-near ys L W i c H h)

    -- the tests, told of e
    min-told : {t t' : ℤ} → t ≡ t' → lt_z (pos d.min.n *ℤ t) d.min.times ≡ lt_z (pos e.min.n *ℤ t') e.min.times
    min-told = ap₂ (λ d t. lt_z (pos d.min.n *ℤ t) d.min.times) is

    max-told : {t t' : ℤ} → t ≡ t' → lt_z d.max.times (pos d.max.n *ℤ t) ≡ lt_z e.max.times (pos e.max.n *ℤ t')
    max-told = ap₂ (λ d t. lt_z d.max.times (pos d.max.n *ℤ t)) is

    fell : lt_z (pos d.min.n *ℤ high) d.min.times ≡ true → Looks ys L i c Looked.Fall
    fell t = falls ys L W i c H h (sym (min-told high_is) ∙ t)

    module _ (t : lt_z (pos d.min.n *ℤ high) d.min.times ≡ false) where
      rose : lt_z d.max.times (pos d.max.n *ℤ low) ≡ true → Looks ys L i c Looked.Rise
      rose u = rises ys L W i c H h (sym (min-told high_is) ∙ t) (sym (max-told low_is) ∙ u)

      went_on : lt_z d.max.times (pos d.max.n *ℤ low) ≡ false → {a b : Bool} → a ≡ lt_z (pos d.min.n *ℤ low) d.min.times → b ≡ lt_z d.max.times (pos d.max.n *ℤ high) →
          {p q : Bound} → p ≡ renewed_of a d.min low d.n → q ≡ renewed_of b d.max high d.n →
          Looks ys L i c (Looked.On (record { total = to_z w64 (of_z w64 d.total); n = d.n; min = p; max = q }))
      went_on u {a} {b} f g {p} {q} m n =
          let k : d.n ≡ e.n = ap (λ d. d.n) is in
          let v = m ∙ ap₂ (λ d t. renewed_of a d.min t d.n) is low_is in
          let w = n ∙ ap₂ (λ d t. renewed_of b d.max t d.n) is high_is in
          subst (λ d. Looks ys L i c (Looked.On d)) (λ j. record { total = sym total_is j; n = sym k j; min = sym v j; max = sym w j })
          (goes_on ys L W i c H h (sym (min-told high_is) ∙ t) (sym (max-told low_is) ∙ u) (f ∙ min-told low_is) (g ∙ max-told high_is))

pub longer-d-requires-clause-c_near : goal.longer-d-requires-clause-c_near
longer-d-requires-clause-c_near c = near _ _ c.args.series.limited _ _ c.requires.held

pub longer-d-requires-clause-sample_bound : goal.longer-d-requires-clause-sample_bound
longer-d-requires-clause-sample_bound c = rw (read c.args.series.limited c.requires.held c.requires.minute_there) (sample c.args.series.limited c.requires.held c.requires.minute_there)

pub overflow_sub-low : goal.overflow_sub-low
overflow_sub-low c =
    let u = small c.args.series.limited c.requires.held c.requires.minute_there c.longer-d.ensures in
    let l = limit c.args.series.limited c.requires.held c.requires.minute_there in
    fit (search cleaning depth 12) tt

pub overflow_add-high : goal.overflow_add-high
overflow_add-high c =
    let u = small c.args.series.limited c.requires.held c.requires.minute_there c.longer-d.ensures in
    let l = limit c.args.series.limited c.requires.held c.requires.minute_there in
    fit (search cleaning depth 12) tt

-- ---- 3
pub below-requires-clause-b_near : goal.below-requires-clause-b_near
below-requires-clause-b_near c = near-min c.args.series.limited c.requires.held c.requires.minute_there c.longer-d.ensures

pub below-requires-clause-total_bound : goal.below-requires-clause-total_bound
below-requires-clause-total_bound c = high-fits c.args.series.limited c.requires.held c.requires.minute_there c.longer-d.ensures

pub returns-then-below : goal.returns-then-below
returns-then-below c = fell c.args.series.limited c.requires.held c.requires.minute_there c.longer-d.ensures (sym c.below.ensures ∙ c.if-below.true)

-- ---- 4
pub above-requires-clause-b_near : goal.above-requires-clause-b_near
above-requires-clause-b_near c = near-max c.args.series.limited c.requires.held c.requires.minute_there c.longer-d.ensures

pub above-requires-clause-total_bound : goal.above-requires-clause-total_bound
above-requires-clause-total_bound c = low-fits c.args.series.limited c.requires.held c.requires.minute_there c.longer-d.ensures

pub returns-then-above : goal.returns-then-above
returns-then-above c =
    rose c.args.series.limited c.requires.held c.requires.minute_there c.longer-d.ensures (sym c.below.ensures ∙ c.if-below.false)
    (sym c.above.ensures ∙ c.if-above.true)

-- ---- 5 and 6
pub below-requires-2-clause-b_near : goal.below-requires-2-clause-b_near
below-requires-2-clause-b_near c = near-min c.args.series.limited c.requires.held c.requires.minute_there c.longer-d.ensures

pub below-requires-2-clause-total_bound : goal.below-requires-2-clause-total_bound
below-requires-2-clause-total_bound c = low-fits c.args.series.limited c.requires.held c.requires.minute_there c.longer-d.ensures

pub renew-requires-clause-total_bound : goal.renew-requires-clause-total_bound
renew-requires-clause-total_bound c = low-fits c.args.series.limited c.requires.held c.requires.minute_there c.longer-d.ensures

pub above-requires-2-clause-b_near : goal.above-requires-2-clause-b_near
above-requires-2-clause-b_near c = near-max c.args.series.limited c.requires.held c.requires.minute_there c.longer-d.ensures

pub above-requires-2-clause-total_bound : goal.above-requires-2-clause-total_bound
above-requires-2-clause-total_bound c = high-fits c.args.series.limited c.requires.held c.requires.minute_there c.longer-d.ensures

pub renew-requires-2-clause-total_bound : goal.renew-requires-2-clause-total_bound
renew-requires-2-clause-total_bound c = high-fits c.args.series.limited c.requires.held c.requires.minute_there c.longer-d.ensures

pub returns : goal.returns
returns c =
    went_on c.args.series.limited c.requires.held c.requires.minute_there c.longer-d.ensures (sym c.below.ensures ∙ c.if-below.false)
    (sym c.above.ensures ∙ c.if-above.false) c.below-2.ensures c.above-2.ensures c.renew.ensures c.renew-2.ensures
