-- `sums::checkpoints::shift`: one more entry is moved. None of them is beyond its limit, so that the sum fits.
use mathlib.Core.Path.{◌≡◌, sym, ◌∙◌, ap, ap₂}
use mathlib.Core.List.{List}
use mathlib.Core.Option.{none}
use native.Mathlib.Omega.{arith}
use mir.Facts.{to_z-of_z}
use mir.Syntax.{w64}
use mir.Val.{to_z, of_z}
use Prim.Native.Nat.{ℕ, suc, ◌+◌, ◌-◌, ◌≤◌, ◌<◌}
use lib.IntN.{ℤ, pos, ◌+ℤ◌}
use lib.ListN.{length, get_or, set, length-set}
use lib.Seq.{slice, length-slice}
use Rattle.integers.specs.Bounds.{Upto, cleaning, fit, clean}
use Rattle.sums.specs.Checkpoints.{first_bad}
use Rattle.sums.specs.Calls.{moved}
use Rattle.sums.proofs.PartLaws.{slice_at}
use Rattle.sums.proofs.EntryLaws.{all_small}
use Rattle.sums.proofs.MovedLaws.{moved-after, moved_more}
use Rattle.sums.proofs.checkpoints.shift.Goals as goal

-- the entry that is next, as it is read
module _ (m e n : ℕ) (d : ℤ) (cs now : List ℤ) (after : m ≤ e) (before : e < n) (room : n ≤ length cs) (is : now ≡ moved m e d cs) where
  is-next : get_or now e (pos 0) ≡ get_or cs e (pos 0)
  is-next = ap (λ t. get_or t e (pos 0)) is ∙ moved-after m e d cs after (omega arith) e (omega arith)

  small-next : n ≤ 256 → first_bad (suc m) (slice m n cs) ≡ none → Upto 1099511627776 (get_or now e (pos 0))
  small-next few good =
      let q : m + (e - m) ≡ e = omega arith in
      let small = all_small (suc m) (slice m n cs) good (e - m) (omega (arith, length-slice m n cs room)) in
      let at = slice_at m n cs (e - m) (omega arith) ∙ ap (λ i. get_or cs i (pos 0)) q in
      record { upto = rw (is-next, sym at) (omega (arith, small, few)) }

pub overflow_add-entries : goal.overflow_add-entries
overflow_add-entries c =
    let a = c.args in
    let l = c.loop-e in
    let p = small-next a.from l.e a.count _ a.entries.now l.entries l.auto.e c.loop-e-test.true c.requires.entries_room l.invariant.0 c.requires.count_bound c.requires.entries_good in
    let q : Upto 33554432 a.by = record { upto = c.requires.by_bound } in
    fit (search cleaning depth 12) tt

pub loop-e-preserved : goal.loop-e-preserved
loop-e-preserved c =
    let a = c.args in
    let l = c.loop-e in
    let by = to_z w64 (of_z w64 a.by) in
    let next = is-next a.from l.e a.count by a.entries.now l.entries l.auto.e c.loop-e-test.true c.requires.entries_room l.invariant.0 in
    let p = small-next a.from l.e a.count by a.entries.now l.entries l.auto.e c.loop-e-test.true c.requires.entries_room l.invariant.0 c.requires.count_bound c.requires.entries_good in
    let q : Upto 33554432 a.by = record { upto = c.requires.by_bound } in
    let value : to_z w64 (of_z w64 (to_z w64 (of_z w64 (get_or l.entries l.e (pos 0))) +ℤ by)) ≡ get_or l.entries l.e (pos 0) +ℤ a.by = clean (search cleaning depth 12) tt in (
      ap₂ (λ t x. set t l.e x) l.invariant.0 (value ∙ ap₂ ◌+ℤ◌ next (sym (to_z-of_z c.ranges.by)))
          ∙ moved_more a.from l.e by a.entries.now l.auto.e (omega (arith, c.requires.entries_room, c.loop-e-test.true)) (omega (arith, c.requires.entries_room, c.loop-e-test.true)),
      length-set l.entries l.e _ ∙ l.invariant.1,
    )
