-- Whether a walk stopped.
use mathlib.Core.Path.{◌≡◌, refl, sym, ap}
use mathlib.Core.Bool.{true, false, true≢false}
use mathlib.Core.Option.{Option}
use Prim.Native.Nat.{ℕ}
use Rattle.std.specs.Prelude as Std
use Rattle.std.specs.Prelude.{Some, None}
use Rattle.std.specs.Option.{is_some}
use Rattle.checker.specs.Walk.{stopped_or}

pub unstopped : (o : Std.Option ℕ) → is_some o ≡ false → o ≡ None
unstopped None e = refl
unstopped (Some k) e = absurd (true≢false e)

pub never-none : {X : Type 0} {k : ℕ} → ◌≡◌ {A = Std.Option ℕ} (Some k) None → X
never-none e = absurd (true≢false (ap is_some e))

pub not-stopped : (o : Std.Option ℕ) → o ≡ None → (x : Option ℕ) → stopped_or o x ≡ x
not-stopped o e x = rw e

pub same-stop : (o : Std.Option ℕ) → is_some o ≡ true → (x y : Option ℕ) → stopped_or o x ≡ stopped_or o y
same-stop None e x y = absurd (true≢false (sym e))
same-stop (Some k) e x y = refl

-- either it did not, or it did
pub at-stop : {X : Type 0} (o : Std.Option ℕ) → (o ≡ None → X) → (is_some o ≡ true → X) → X
at-stop None f g = f refl
at-stop (Some k) f g = g refl
