-- `sums::checkpoints::fill`: the next 256 minutes give the next checkpoint.
use mathlib.Core.Path.{◌≡◌, refl, sym, ◌∙◌, ap, ap₂}
use mathlib.Core.List.{List, [], ◌∷◌, ◌++◌}
use native.Mathlib.Numerals.{add-one}
use native.Mathlib.Omega.{arith}
use Prim.Native.Nat.{ℕ, suc, ◌+◌, ◌-◌, ◌*◌, ◌≤◌}
use mir.Syntax.{w64}
use mir.Val.{to_z, of_z}
use lib.ListN.{length, take, drop}
use lib.Seq.{slice}
use lib.IntN.{ℤ, nat_abs, ◌+ℤ◌}
use Rattle.integers.specs.Order.{abs-+}
use Rattle.integers.specs.Bounds.{Upto, cleaning, clean}
use Rattle.integers.specs.Sums.{sum_z}
use Rattle.series.specs.Answer.{refill}
use Rattle.series.proofs.ListLoop.{begins-more}
use Rattle.sums.specs.Checkpoints.{prefix_sum, prefix_sums}
use Rattle.sums.proofs.PartLaws.{part}
use Rattle.sums.proofs.CheckpointLaws.{prefix-more, length-prefix_sums}
use Rattle.sums.proofs.checkpoints.fill.Goals as goal

pub loop-e-init : goal.loop-e-init
unfolding sum_z prefix_sums
loop-e-init c = (refl, omega arith, (refl, refl))

-- the minutes up to the next checkpoint
next-minutes : (ys : List ℤ) (e : ℕ) → e * 256 + 256 ≤ length ys → take (e * 256 + 256 - e * 256) (drop (e * 256) ys) ≡ slice (256 * e) (256 * suc e) ys
next-minutes ys e h =
    let p : e * 256 ≡ 256 * e = omega arith in
    let q : e * 256 + 256 ≡ 256 * suc e = omega arith in
    part (e * 256) (e * 256 + 256) ys (omega arith) h ∙ rw (q, p)

-- the next checkpoint, as it is computed
module _ (c : goal.After-sum-total) where
  abbrev ys : List ℤ
  ys = c.args.samples.now

  abbrev e : ℕ
  e = c.loop-e.e

  abbrev total : ℤ
  total = to_z w64 c.loop-e.total-bits

  abbrev computed : ℤ
  computed = to_z w64 (of_z w64 (total +ℤ to_z w64 (of_z w64 c.sum-total.result)))

  exactly : computed ≡ total +ℤ c.sum-total.result
  exactly =
      let p : Upto 140737488355328 total = record { upto = omega (arith, c.loop-e.invariant.1) } in
      let q : Upto 549755813888 c.sum-total.result = record { upto = c.sum-total.ensures.answer_bound } in
      clean (search cleaning depth 12) tt

  is-next : computed ≡ prefix_sum ys (256 * suc e)
  is-next =
      exactly
      ∙ ap₂ ◌+ℤ◌ c.loop-e.invariant.0 (c.sum-total.ensures.answer ∙ ap sum_z (next-minutes ys e (omega arith)))
      ∙ sym (prefix-more ys (256 * e) (256 * suc e) (omega arith))

  still_small : nat_abs computed ≤ (e + 1) * 549755813888
  still_small = rw exactly (omega (arith, abs-+ total c.sum-total.result, c.loop-e.invariant.1, c.sum-total.ensures.answer_bound))

one_more : (ys : List ℤ) (e : ℕ) → prefix_sums ys (e + 1) ≡ prefix_sums ys e ++ prefix_sum ys (256 * suc e) ∷ []
unfolding prefix_sums
one_more ys e = rw add-one

pub loop-e-preserved : goal.loop-e-preserved
loop-e-preserved c =
    let l = c.loop-e in
    let q : 256 * (e c + 1) ≡ 256 * suc (e c) = omega arith in
    let stored = begins-more _ (prefix_sums (ys c) (e c)) (e c) l.entries _ (length-prefix_sums (ys c) (e c)) (omega arith) l.invariant.2 in
    (rw q (is-next c), still_small c, rw (one_more (ys c) (e c), sym (is-next c)) stored)

pub returns : goal.returns
unfolding refill
returns c =
    let q : c.loop-e.e ≡ c.args.count = omega (arith, c.loop-e-test.false, c.loop-e.auto.e-end) in
    rw (length-prefix_sums c.args.samples.now c.args.count) (rw q at c.loop-e.invariant.2.0)
