-- Whether a series is within the limits has one proof at most.
use Rattle.std.specs.Prelude.{List, [], ◌∷◌, ℕ, ℤ}
use Rattle.std.specs.Coded.{×_prop, Unit-prop, le_prop}
use Rattle.optimality.specs.Series.{Minute, Bounded, Limited, plain}

bounded-prop : (B : ℕ) (ms : List Minute) → IsProp (Bounded B ms)
unfolding Bounded
bounded-prop B [] = Unit-prop
bounded-prop B (m ∷ ms) = ×_prop le_prop (bounded-prop B ms)

pub Limited-prop : (ys : List ℤ) (L : ℕ) → IsProp (Limited ys L)
Limited-prop ys L = Prim.hlevel (le_prop, bounded-prop 16777216 (plain ys))
