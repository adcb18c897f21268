-- `sweep::forward::forward`: a segment that is closed is written, and the next one begins behind it.
use Rattle.std.proofs.Common.{arith, ◌≡◌, refl, sym, ◌∙◌, subst, ℕ, ◌≤◌, pos, neg_ℤ, ◌-ℤ◌, w64, to_z, of_z}
use lib.IntN.{+ℤ_idl}
use Rattle.integers.specs.Order.{abs_neg}
use Rattle.integers.specs.Bounds.{Upto, Atmost, cleaning, fit, clean}
use Rattle.denoise.proofs.WalkSteps.{begin-good}
use Rattle.denoise.proofs.WalkLoop.{kept-first}
use Rattle.sweep.specs.Forward.{Arrives}
use Rattle.sweep.proofs.StretchLaws.{first-held}
use Rattle.sweep.proofs.ForwardLaws.{none_passed, arrives, turned}
use Rattle.sweep.proofs.forward.forward.Goals as goal

-- ---- the duals that follow
module _ {L : ℕ} (h : L ≤ 1099511627776) where
  limit : Atmost 1099511627776 L
  limit = record { atmost = h }

  up : to_z w64 L ≡ pos L
  up = let l = limit in clean (search cleaning) tt

  down : to_z w64 (of_z w64 (pos 0 -ℤ to_z w64 L)) ≡ neg_ℤ (pos L)
  down =
      let t : to_z w64 (of_z w64 (pos 0 -ℤ to_z w64 L)) ≡ pos 0 -ℤ pos L = let l = limit in clean (search cleaning depth 12) tt in
      t ∙ +ℤ_idl _

up_small : (L : ℕ) → Upto L (pos L)
up_small L = record { upto = omega arith }

down-small : (L : ℕ) → Upto L (neg_ℤ (pos L))
down-small L = record { upto = omega (arith, abs_neg (pos L)) }

pub loop-spent-init : goal.loop-spent-init
loop-spent-init c =
    let W = c.args.series.limited in
    record {
      kept = kept-first _ _ _ _ _ _ (begin-good _ _ W 0 (pos 0) W.some (omega arith));
      counted = record { least = omega arith; most = omega arith };
      few = omega arith;
      before = W.some;
      dual = record { upto = omega arith };
    }

-- ---- the line falls
pub loop-spent-preserved-in-Fall : goal.loop-spent-preserved-in-Fall
loop-spent-preserved-in-Fall c =
    let W = c.args.series.limited in
    let e = c.in-Fall.ensures in
    let s = c.write-m.ensures in
    turned W c.loop-spent.invariant c.in-Fall.c e.0 e.1.0 c.in-Fall.c.min _ e.1.1 (up W.smooth) c.next-o.ensures c.loop-spent-test.true (up_small _)
    (s.answer, (s.lengths, s.totals))

-- ---- the line rises
pub overflow_sub-series : goal.overflow_sub-series
overflow_sub-series c = let l = limit c.args.series.limited.smooth in fit (search cleaning depth 12) tt

pub loop-spent-preserved : goal.loop-spent-preserved
loop-spent-preserved c =
    let W = c.args.series.limited in
    let e = c.in-Rise.ensures in
    let s = c.write-m-in-Rise.ensures in
    turned W c.loop-spent.invariant c.in-Rise.c e.0 e.1.0 c.in-Rise.c.max _ e.1.1 (down W.smooth) c.next-o-in-Rise.ensures c.loop-spent-test.true (down-small _)
    (s.answer, (s.lengths, s.totals))

-- ---- the last minute
pub returns-in-End-clause-answer : goal.returns-in-End-clause-answer
returns-in-End-clause-answer c =
    let e = c.in-End.ensures in
    arrives c.args.series.limited c.loop-spent.invariant _ e.0 (λ l. absurd (omega (arith, l, e.1)))

-- ---- the budget is spent
pub returns-clause-answer : goal.returns-clause-answer
returns-clause-answer c =
    let a = c.args in
    let W = a.series.limited in
    let l = c.loop-spent in
    let i = l.invariant in
    let H = first-held _ _ W _ l.o.u i.before i.dual.upto in
    subst (λ o. Arrives a.series.samples.now a.series.smoothing a.budget (record { segments = l.m; spent = l.spent; i = l.o.i; c = o })) (sym c.first.ensures)
    (arrives W i _ (none_passed H) (λ _. (refl, omega (arith, c.loop-spent-test.false))))
