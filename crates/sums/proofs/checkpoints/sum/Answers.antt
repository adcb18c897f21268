-- `sums::checkpoints::sum`: one more sample. Each is at most 2^31, so that no sum of 256 of them wraps.
use mathlib.Core.Path.{◌≡◌, refl, sym, ◌∙◌, ap}
use native.Mathlib.Numerals.{add-one}
use native.Mathlib.Omega.{arith}
use Prim.Native.Nat.{ℕ, ◌+◌, ◌*◌, ◌<◌, ◌≤◌}
use mir.Syntax.{w32, w64}
use mir.Val.{SFits, to_z, of_z}
use mir.Facts.{to_z-of_z}
use lib.ListN.{get_or}
use lib.IntN.{ℤ, pos, negsuc, nat_abs, ◌+ℤ◌}
use Rattle.std.proofs.Common.{rules}
use Rattle.integers.specs.Bounds.{Upto, cleaning, clean}
use Rattle.integers.specs.Order.{abs-+}
use Rattle.integers.specs.Sums.{sum_z, sum-take}
use Rattle.sums.proofs.checkpoints.sum.Goals as goal

pub loop-y-init : goal.loop-y-init
unfolding sum_z
loop-y-init c = (refl, omega arith)

wide : (y : ℤ) → SFits w32 y → Upto 2147483648 y
wide (pos n) f = record { upto = omega (arith, f.sfits) }
wide (negsuc n) f = record { upto = omega (arith, f.sfits) }

module _ (y : ℤ) (k t : ℕ) (f : SFits w32 y) (h : k < 256) (small : nat_abs (to_z w64 t) ≤ k * 2147483648) where
  -- the sum as it is computed
  more : to_z w64 (of_z w64 (to_z w64 t +ℤ to_z w64 (of_z w64 y))) ≡ to_z w64 t +ℤ y
  more =
      let p : Upto 549755813888 (to_z w64 t) = record { upto = omega (arith, small) } in
      let q = wide y f in
      clean (search cleaning depth 12) tt

  more-small : nat_abs (to_z w64 t +ℤ y) ≤ (k + 1) * 2147483648
  more-small = omega (arith, abs-+ (to_z w64 t) y, small, (wide y f).upto)

pub loop-y-preserved : goal.loop-y-preserved
loop-y-preserved c =
    let l = c.loop-y in
    let y = get_or c.args.samples.now l.y-index (pos 0) in
    let f : SFits w32 y = search rules in
    let is : c.from-total.result ≡ y = c.from-total.ensures ∙ to_z-of_z f in
    let k : l.y-index < 256 = omega (arith, c.loop-y-test.true, c.requires) in
    let e = more y l.y-index l.total-bits f k l.invariant.1 in
    let s = ap (λ z. z +ℤ y) l.invariant.0 ∙ sym (sum-take c.args.samples.now l.y-index) in
    rw is (rw add-one (e ∙ s), rw e (more-small y l.y-index l.total-bits f k l.invariant.1))
