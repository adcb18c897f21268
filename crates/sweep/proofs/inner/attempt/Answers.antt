-- `sweep::inner::attempt`: the walk comes to the end, or to where the rest of the line can be drawn from.
use Rattle.std.proofs.Common.{arith, ◌≡◌, refl, ◌∙◌, ap, subst, false, List, ℕ, length, ℤ, pos}
use Rattle.std.specs.Prelude.{Some, None}
use Rattle.optimality.specs.Series.{Limited}
use Rattle.optimality.specs.Machine.{plain_line}
use Rattle.denoise.specs.Walk.{Reached, Pauses, Walks}
use Rattle.denoise.specs.declared.steps.Variables.{Variables}
use Rattle.denoise.specs.declared.walk.Walked.{Walked}
use Rattle.denoise.proofs.WalkedLine.{all_there, first-filled, few-written}
use Rattle.sweep.specs.Forward.{start_of}
use Rattle.sweep.proofs.AttemptLaws.{inside, small-sum, small-sample, leaves-off}
use Rattle.sweep.proofs.inner.attempt.Goals as goal

module _ {ys : List ℤ} {L budget room : ℕ} (W : Limited ys L) {w : Walked} (H : Walks ys L false (start_of ys L) budget room w) where
  paused : {q : Variables} → w.next ≡ Some q → Pauses ys L false (start_of ys L) budget w.segments q
  paused e = subst (Reached ys L false (start_of ys L) budget w.segments) e H.reached

  done : w.next ≡ None → w.segments ≡ length (plain_line (pos L) ys)
  done e = subst (Reached ys L false (start_of ys L) budget w.segments) e H.reached ∙ ap length (all_there _ _ false W refl)

pub overflow_cast-m : goal.overflow_cast-m
overflow_cast-m c = omega (arith, few-written _ _ false c.args.series.limited refl c.sweep-w.result c.sweep-w.ensures.answer)

-- ---- the end
pub returns-in-None : goal.returns-in-None
returns-in-None c =
    let W = c.args.series.limited in
    let s = c.sweep-w.ensures in
    record {
      answer = done W s.answer c.in-None.is;
      lengths = s.lengths ∙ first-filled _ _ false W refl (λ g. g.len) c.sweep-w.result.segments _ c.requires.lengths_room;
      totals = s.totals ∙ first-filled _ _ false W refl (λ g. g.total) c.sweep-w.result.segments _ c.requires.totals_room;
    }

-- ---- the budget is spent
pub left_off-requires : goal.left_off-requires
left_off-requires c =
    let W = c.args.series.limited in
    let P = paused W c.sweep-w.ensures.answer c.in-Some.is in
    record { k0_nonzero = P.good.first; k0_in_bounds = inside _ _ W refl P; total_bound = small-sum _ _ W refl P; sample_bound = small-sample _ _ W refl P }

pub returns-in-Some : goal.returns-in-Some
returns-in-Some c =
    let W = c.args.series.limited in
    let s = c.sweep-w.ensures in
    let P = paused W s.answer c.in-Some.is in
    rw c.left_off.ensures (record {
      answer = leaves-off _ _ W refl P;
      lengths = s.lengths ∙ first-filled _ _ false W refl (λ g. g.len) c.sweep-w.result.segments _ c.requires.lengths_room;
      totals = s.totals ∙ first-filled _ _ false W refl (λ g. g.total) c.sweep-w.result.segments _ c.requires.totals_room;
    })
