-- `checker::dual_walk::along`: a minute more of the segment.
use mathlib.Core.Path.{◌≡◌, refl, sym, ◌∙◌}
use mathlib.Core.List.{List}
use native.Mathlib.Omega.{arith}
use Prim.Native.Nat.{ℕ, suc, ◌-◌, ◌<◌}
use lib.IntN.{ℤ}
use Rattle.level.specs.declared.Level.{Level}
use Rattle.checker.specs.declared.dual_walk.Progress.{Progress}
use Rattle.checker.specs.Walk.{unless_stopped, minute_of, along_of, Ahead}
use Rattle.checker.proofs.StopLaws.{unstopped}
use Rattle.checker.proofs.NoOverflow.{ahead-next}
use Rattle.checker.proofs.dual_walk.along.Goals as goal

pub loop-left-init : goal.loop-left-init
loop-left-init c = record { ahead = c.requires; same = refl }

-- where a minute more comes
module _ (L : ℕ) (ys : List ℤ) (t : Level) (e : Progress) (n : ℕ) (h : 0 < n) where
  ahead : Ahead L ys t e n → Ahead L ys t e (suc (n - 1))
  ahead a = let k : n ≡ suc (n - 1) = omega (arith, h) in rw k at a

  same : {r : Progress} → along_of L ys t e n ≡ r →
      unless_stopped (minute_of L ys t e (n - 1)) (along_of L ys t (minute_of L ys t e (n - 1)) (n - 1)) ≡ r
  unfolding along_of
  same i = let k : n ≡ suc (n - 1) = omega (arith, h) in rw k at i

pub minute-e-requires : goal.minute-e-requires
minute-e-requires c = ahead _ _ _ _ _ c.loop-left-test.true c.loop-left.invariant.ahead

pub returns-then-is_some : goal.returns-then-is_some
returns-then-is_some c =
    let e = c.minute-e.ensures in
    let k = rw e at (sym c.is_some.ensures ∙ c.if-is_some.true) in
    e ∙ rw k at (same _ _ _ _ _ c.loop-left-test.true c.loop-left.invariant.same)

pub loop-left-preserved : goal.loop-left-preserved
loop-left-preserved c =
    let e = c.minute-e.ensures in
    let k = rw e at (sym c.is_some.ensures ∙ c.if-is_some.false) in
    let a = ahead _ _ _ _ _ c.loop-left-test.true c.loop-left.invariant.ahead in
    record { ahead = rw e (ahead-next _ _ _ _ _ a (unstopped _ k)); same = rw e (rw k at (same _ _ _ _ _ c.loop-left-test.true c.loop-left.invariant.same)) }

pub returns : goal.returns
unfolding along_of
returns c = let e : c.loop-left.left ≡ 0 = omega (arith, c.loop-left-test.false) in rw e at c.loop-left.invariant.same
