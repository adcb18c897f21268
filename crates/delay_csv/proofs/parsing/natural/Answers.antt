-- `delay_csv::parsing::natural`: there are digits, and no zero in front of others.
use mathlib.Core.Path.{◌≡◌, sym, ap, ◌∙◌}
use mathlib.Core.Bool.{true≢false}
use mathlib.Core.List.{List}
use borrow.Author.Tests.{eqb-true, eqb-false, le-ltb}
use native.Mathlib.Omega.{arith}
use native.Mathlib.Nat.{add-zero}
use Prim.Native.Nat.{ℕ, ◌+◌, ◌≤◌, ◌<◌}
use lib.ListN.{length, drop, get_or, length-drop}
use lib.Seq.{get_or-drop}
use Rattle.delay_csv.specs.Parsing.{digits_at}
use Rattle.delay_csv.proofs.DigitLaws.{digits-first}
use Rattle.delay_csv.proofs.StartLaws.{starts-long}
use Rattle.delay_csv.proofs.NumberLaws.{number-none, number-zero, number-there}
use Rattle.delay_csv.proofs.parsing.natural.Goals as goal
use Rattle.delay_csv.proofs.parsing.natural.Goals.{then-next-at-via-then-next-at, then-next-at-via-else-next-at+then-text-at-eq48, then-next-at-2, else-next-at-2}

module _ (text : List ℕ) (at : ℕ) where
  -- the digits stand in the text
  within : at ≤ length text → at + length (digits_at (drop at text)) ≤ length text
  within h = omega (arith, starts-long (digits_at (drop at text)) (drop at text) (digits-first (drop at text)), length-drop at text)

  front : get_or (drop at text) 0 0 ≡ get_or text at 0
  front = get_or-drop at text 0 0 ∙ ap (λ k. get_or text k 0) (add-zero at)

pub bounds-text-at : goal.bounds-text-at
bounds-text-at c = omega (arith, within c.args.text.now c.args.at c.requires, c.digits-value.ensures.next, c.if-next-at-2.true)

pub returns-then-next-at : goal.returns-then-next-at
returns-then-next-at c =
    let e = c.digits-value.ensures in
    let text = c.args.text.now in
    let at = c.args.at in
    elim c.then-next-at.branch [
      | then-next-at-via-then-next-at w ↦ number-none (drop at text) at (omega (arith, e.next, w.if-next-at.true))
      | then-next-at-via-else-next-at+then-text-at-eq48 w ↦
          elim w.if-next-at-2.branch [
            | then-next-at-2 x ↦
                let zero = eqb-true (get_or text at 0) 48 (sym x.value-is ∙ w.if-text-at-eq48.true) in
                number-zero (drop at text) at (omega (arith, e.next, x.if-next-at-2.true)) (front text at ∙ zero)
            | else-next-at-2 x ↦ absurd (true≢false (sym w.if-text-at-eq48.true ∙ x.value-is ∙ le-ltb (at + 1) c.digits-value.result.1 x.if-next-at-2.false))
          ]
    ]

pub returns : goal.returns
returns c =
    let e = c.digits-value.ensures in
    let text = c.args.text.now in
    let at = c.args.at in
    let some : 0 < length (digits_at (drop at text)) = omega (arith, e.next, c.if-next-at.false) in
    elim c.if-next-at-2.branch [
      | then-next-at-2 w ↦
          let other = eqb-false (get_or text at 0) 48 (sym w.value-is ∙ c.if-text-at-eq48.false) in
          number-there (drop at text) at _ _ some (λ z. absurd (other (sym (front text at) ∙ z))) e.value e.next
      | else-next-at-2 w ↦ number-there (drop at text) at _ _ some (λ z. omega (arith, e.next, w.if-next-at-2.false)) e.value e.next
    ]
