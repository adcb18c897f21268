-- `delay_csv::parsing::delay`: a '-' and a size after it that is not 0, or a size alone.
use mathlib.Core.Path.{◌≡◌, sym, ◌∙◌}
use native.Mathlib.Omega.{arith}
use Prim.Native.Nat.{ℕ}
use lib.IntN.{pos, neg_ℤ, ◌-ℤ◌, +ℤ_idl}
use mir.Facts.{to_z_pos}
use mir.Syntax.{w32}
use mir.Val.{to_z, of_z}
use Rattle.integers.specs.Bounds.{Atmost, cleaning, clean}
use Rattle.delay_csv.proofs.FieldLaws.{size-most, minus-nothing, minus-zero, minus-found, plain-nothing, plain-found}
use Rattle.delay_csv.proofs.parsing.delay.Goals as goal

-- a size negated
module _ (n : ℕ) (small : Atmost 16777217 n) where
  negated : to_z w32 (of_z w32 (pos 0 -ℤ to_z w32 n)) ≡ neg_ℤ (pos n)
  negated = clean (search cleaning depth 12) tt ∙ +ℤ_idl (neg_ℤ (pos n))

pub returns-in_err-size : goal.returns-in_err-size
returns-in_err-size c = rw c.from_residual.ensures (plain-nothing c.args.text.now c.args.at (sym c.holds.ensures ∙ c.if-not-holds.true) (c.in_err-size.ensures))

pub returns-then-not-holds : goal.returns-then-not-holds
returns-then-not-holds c =
    let there = c.in_ok-size.ensures in
    rw (to_z_pos w32 {n = c.in_ok-size.size} (omega (arith, size-most _ _ _ _ there))) (plain-found c.args.text.now c.args.at _ _ there)

pub returns-in_err-size-2 : goal.returns-in_err-size-2
returns-in_err-size-2 c = rw c.from_residual-in_err-size-2.ensures (minus-nothing c.args.text.now c.args.at (sym c.holds.ensures ∙ c.if-not-holds.false) (c.in_err-size-2.ensures))

pub returns-then-size-eq0 : goal.returns-then-size-eq0
returns-then-size-eq0 c = minus-zero c.args.text.now c.args.at _ _ (sym c.holds.ensures ∙ c.if-not-holds.false) (c.in_ok-size-2.ensures) c.if-size-eq0.true

pub returns : goal.returns
returns c =
    let there = c.in_ok-size-2.ensures in
    minus-found c.args.text.now c.args.at _ _ _ (sym c.holds.ensures ∙ c.if-not-holds.false) there c.if-size-eq0.false (negated _ (record { atmost = size-most _ _ _ _ there }))
