-- `counts::walk::advance`: sample k goes up by one, or is at the top and begins again.
use mathlib.Core.Path.{◌≡◌, sym, ◌∙◌, ap, ap₂}
use mathlib.Core.List.{List, [], ◌∷◌, ◌++◌}
use native.Mathlib.Numerals.{add-one}
use native.Mathlib.Omega.{arith}
use Prim.Native.Nat.{ℕ, zero, suc, ◌+◌, ◌<◌, ◌≤◌}
use mir.Syntax.{w32}
use mir.Val.{SFits, to_z, of_z}
use lib.ListN.{length, get_or, set, drop, replicate, length-replicate}
use lib.Seq.{drop-cons, drop-length, append_snoc, set_at, get_or_at}
use lib.IntN.{ℤ, pos, ◌+ℤ◌}
use lib.Signed.{lt_z}
use Rattle.integers.specs.Order.{◌⩽◌, ◌⋖◌, lt-true, lt-false}
use Rattle.integers.specs.Linear.{int, size}
use Rattle.integers.specs.Bounds.{Upto, Atmost, cleaning, fit, clean}
use Rattle.counts.specs.EverySeries.{InRange}
use Rattle.counts.specs.Walk.{next_series}
use Rattle.counts.proofs.WalkLaws.{one_more, filled_more, next_up, next-over}
use Rattle.counts.proofs.walk.advance.Goals as goal

range_at : (top : ℕ) (ys : List ℤ) (k : ℕ) → InRange top ys → k < length ys → (pos 0 ⩽ get_or ys k (pos 0)) × (get_or ys k (pos 0) ⩽ pos top)
unfolding InRange
range_at top [] k w h = absurd (omega arith)
range_at top (y ∷ ys) zero w h = (w.0, w.1)
range_at top (y ∷ ys) (suc k) w h = range_at top ys k w.2 (omega arith)

-- ---- sample k, of which the others after it are as they were
module _ (top : ℕ) (ys : List ℤ) (k : ℕ) (inside : k < length ys) where
  abbrev y : ℤ
  y = get_or ys k (pos 0)

  abbrev before : List ℤ
  before = replicate k (pos 0)

  -- it is at the top
  over-at : next_series top ys ≡ before ++ next_series top (drop k ys) → pos top ⩽ y → next_series top ys ≡ replicate (k + 1) (pos 0) ++ next_series top (drop (k + 1) ys)
  over-at f h =
      f ∙ rw (one_more (pos 0) k, add-one k, drop-cons ys k (pos 0) inside, next-over top y (drop (suc k) ys) h) (sym (append_snoc before (pos 0) (next_series top (drop (suc k) ys))))

  module _ {zs : List ℤ} (e : zs ≡ before ++ drop k ys) where
    abbrev now : ℤ
    now = get_or zs k (pos 0)

    here : now ≡ y
    here = rw (e, drop-cons ys k (pos 0) inside) (get_or_at before y (drop (suc k) ys) (pos 0) k (length-replicate k (pos 0)))

    -- it is the last one that changes
    up_at : next_series top ys ≡ before ++ next_series top (drop k ys) → y ⋖ pos top → set zs k (y +ℤ pos 1) ≡ next_series top ys
    up_at f h =
        rw (e, f, drop-cons ys k (pos 0) inside, next_up top y (drop (suc k) ys) h)
        (set_at before y (drop (suc k) ys) (y +ℤ pos 1) k (length-replicate k (pos 0)))

    -- as it is read
    module _ (low : top ≤ 9) (W : InRange top ys) where
      small : Upto 9 now
      small = let w = range_at top ys k W inside in record { upto = rw here (omega (int, size (get_or ys k (pos 0)), low)) }

      tested : lt_z (to_z w32 (of_z w32 now)) (to_z w32 top) ≡ lt_z y (pos top)
      tested =
          let p = small in
          let t : Atmost 9 top = record { atmost = low } in
          let l : to_z w32 (of_z w32 now) ≡ now = clean (search cleaning depth 12) tt in
          let r : to_z w32 top ≡ pos top = clean (search cleaning depth 12) tt in
          ap₂ lt_z (l ∙ here) r

      more-fits : SFits w32 (to_z w32 (of_z w32 now) +ℤ pos 1)
      more-fits = let p = small in fit (search cleaning depth 12) tt

      more-is : to_z w32 (of_z w32 (to_z w32 (of_z w32 now) +ℤ pos 1)) ≡ y +ℤ pos 1
      more-is = let p = small in clean (search cleaning depth 12) tt ∙ ap (λ y. y +ℤ pos 1) here

pub overflow_add-samples : goal.overflow_add-samples
overflow_add-samples c = more-fits c.args.top c.args.samples.now c.loop-k.k c.loop-k-test.true c.loop-k.invariant.0.0 c.requires.top_bound c.requires.in_range

pub returns-then-samples-k : goal.returns-then-samples-k
returns-then-samples-k c =
    let a = c.args in
    let l = c.loop-k in
    let t = tested a.top a.samples.now l.k c.loop-k-test.true l.invariant.0.0 c.requires.top_bound c.requires.in_range in
    ap (set l.samples l.k) (more-is a.top a.samples.now l.k c.loop-k-test.true l.invariant.0.0 c.requires.top_bound c.requires.in_range)
    ∙ up_at a.top a.samples.now l.k c.loop-k-test.true l.invariant.0.0 l.invariant.1 (lt-true (sym t ∙ c.if-samples-k.true))

pub loop-k-preserved : goal.loop-k-preserved
loop-k-preserved c =
    let a = c.args in
    let l = c.loop-k in
    let t = tested a.top a.samples.now l.k c.loop-k-test.true l.invariant.0.0 c.requires.top_bound c.requires.in_range in (
      filled_more (pos 0) a.samples.now l.k l.samples c.loop-k-test.true l.invariant.0,
      over-at a.top a.samples.now l.k c.loop-k-test.true l.invariant.1 (lt-false (sym t ∙ c.if-samples-k.false)),
    )

pub returns : goal.returns
unfolding next_series
returns c =
    let ys = c.args.samples.now in
    let all : c.loop-k.k ≡ length ys = omega (arith, c.loop-k-test.false, c.loop-k.auto.k-end) in
    c.loop-k.invariant.0.0 ∙ sym (c.loop-k.invariant.1 ∙ rw (all, drop-length ys))
