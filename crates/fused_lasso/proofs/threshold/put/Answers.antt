-- `fused_lasso::threshold::put`: (3) in its three cases; no number wraps.
use mathlib.Core.Path.{◌≡◌, ap, ◌∙◌}
use mathlib.Core.List.{List, [], ◌∷◌}
use Prim.Native.Nat.{ℕ, ◌≤◌}
use lib.ListN.{set}
use lib.IntN.{ℤ, pos, neg_ℤ, ◌+ℤ◌, ◌*ℤ◌, ◌-ℤ◌, +ℤ_idl}
use mir.Syntax.{w64}
use mir.Val.{SFits, to_z, of_z}
use Rattle.integers.specs.Order.{lt-true, lt-false}
use Rattle.integers.specs.Bounds.{Atmost, cleaning, fit, clean}
use Rattle.optimality.specs.PlainSeries.{plain_segment}
use Rattle.fused_lasso.specs.Threshold.{Takes}
use Rattle.fused_lasso.proofs.ThresholdLaws.{small-length, small-total, takes-zero, put-above, put-below, put_quiet}
use Rattle.fused_lasso.proofs.threshold.put.Goals as goal

-- the product as it is computed, and what is stored
module _ {ns : List ℕ} {ts : List ℤ} {m len : ℕ} {total : ℤ} (t : Takes ns ts m (plain_segment len total ∷ [])) (floor : ℕ) (low : floor ≤ 16777216) where
  abbrev by : ℤ
  by = to_z w64 (of_z w64 (to_z w64 floor *ℤ to_z w64 len))

  abbrev read : ℤ
  read = to_z w64 (of_z w64 total)

  floor-atmost : Atmost 16777216 floor
  floor-atmost = record { atmost = low }

  by-is : by ≡ pos floor *ℤ pos len
  by-is = let f = floor-atmost in let l = small-length t in clean (search cleaning depth 12) tt

  read-is : read ≡ total
  read-is = let s = small-total t in clean (search cleaning) tt

  opposite-is : to_z w64 (of_z w64 (pos 0 -ℤ by)) ≡ neg_ℤ (pos floor *ℤ pos len)
  opposite-is = let f = floor-atmost in let l = small-length t in clean (search cleaning depth 12) tt ∙ +ℤ_idl _

  opposite-fits : SFits w64 (pos 0 -ℤ by)
  opposite-fits = let f = floor-atmost in let l = small-length t in fit (search cleaning depth 12) tt

  less-is : to_z w64 (of_z w64 (read -ℤ by)) ≡ total -ℤ pos floor *ℤ pos len
  less-is = let f = floor-atmost in let l = small-length t in let s = small-total t in clean (search cleaning depth 16) tt

  more-is : to_z w64 (of_z w64 (read +ℤ by)) ≡ total +ℤ pos floor *ℤ pos len
  more-is = let f = floor-atmost in let l = small-length t in let s = small-total t in clean (search cleaning depth 16) tt

  more-fits : SFits w64 (read +ℤ by)
  more-fits = let f = floor-atmost in let l = small-length t in let s = small-total t in fit (search cleaning depth 12) tt

pub returns-then-total-by : goal.returns-then-total-by
returns-then-total-by c =
    let a = c.args in
    let t = c.requires.takes in
    let f = c.requires.floor_bound in
    let e = c.append.ensures in
    let p = put-above t a.floor (lt-true (rw (by-is t a.floor f, read-is t a.floor f) at c.if-total-by.true))
    (e.answer, (e.lengths, e.totals ∙ ap (set a.totals.now a.m) (less-is t a.floor f))) in
    record { answer = p.0; lengths = p.1.0; totals = p.1.1 }

pub overflow_sub-by : goal.overflow_sub-by
overflow_sub-by c = opposite-fits c.requires.takes c.args.floor c.requires.floor_bound

pub overflow_add-total : goal.overflow_add-total
overflow_add-total c = more-fits c.requires.takes c.args.floor c.requires.floor_bound

pub returns-then-total-by-2 : goal.returns-then-total-by-2
returns-then-total-by-2 c =
    let a = c.args in
    let t = c.requires.takes in
    let f = c.requires.floor_bound in
    let e = c.append-then-total-by-2.ensures in
    let p = put-below t a.floor (lt-true (rw (opposite-is t a.floor f, read-is t a.floor f) at c.if-total-by-2.true))
    (e.answer, (e.lengths, e.totals ∙ ap (set a.totals.now a.m) (more-is t a.floor f))) in
    record { answer = p.0; lengths = p.1.0; totals = p.1.1 }

pub put_zero-requires : goal.put_zero-requires
put_zero-requires c = takes-zero c.requires.takes

pub returns : goal.returns
returns c =
    let a = c.args in
    let t = c.requires.takes in
    let f = c.requires.floor_bound in
    let e = c.put_zero.ensures in
    let p = put_quiet t a.floor (lt-false (rw (opposite-is t a.floor f, read-is t a.floor f) at c.if-total-by-2.false))
    (lt-false (rw (by-is t a.floor f, read-is t a.floor f) at c.if-total-by.false)) (e.answer, (e.lengths, e.totals)) in
    record { answer = p.0; lengths = p.1.0; totals = p.1.1 }
