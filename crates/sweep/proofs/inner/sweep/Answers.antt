-- `sweep::inner::sweep`: the way forward, and the walk from the last minute on.
use Rattle.std.proofs.Common.{arith, ◌≡◌, sym, subst, false, List, ℕ, ◌+◌, ◌-◌, ◌≤◌, length, ℤ, take}
use lib.Seq.{sets}
use Rattle.optimality.specs.Series.{Limited}
use Rattle.optimality.specs.PlainSeries.{line_lengths, line_totals}
use Rattle.denoise.specs.Walk.{rest, Walks}
use Rattle.denoise.specs.declared.steps.Variables.{Variables}
use Rattle.denoise.specs.declared.walk.Walked.{Walked}
use Rattle.denoise.proofs.WalkLoop.{Kept, lengths-long}
use Rattle.sweep.specs.Forward.{Arrives, start_of, whole}
use Rattle.sweep.specs.declared.forward.Arrived.{Arrived}
use Rattle.sweep.proofs.StretchLaws.{inside, near}
use Rattle.sweep.proofs.ForwardLaws.{variables_at, kept, joined}
use Rattle.sweep.proofs.inner.sweep.Goals as goal

-- ---- the walk from the variables r on, where the way forward ends
module _ {ys : List ℤ} {L budget : ℕ} (W : Limited ys L) (a : List ℕ) (b : List ℤ) (room : length ys ≤ length a)
    {h : Arrived} (A : Arrives ys L budget h) {lengths : List ℕ} {totals : List ℤ}
    (n : lengths ≡ sets a 0 (line_lengths (take h.segments (whole ys L)))) (t : totals ≡ sets b 0 (line_totals (take h.segments (whole ys L))))
    {r : Variables} (is : r ≡ variables_at h) where
  held : Kept ys L false (start_of ys L) a b lengths totals h.segments r
  held = subst (Kept ys L false (start_of ys L) a b lengths totals h.segments) (sym is) (kept h A n t)

  concluded : {left_over : ℕ} → left_over ≡ budget - h.spent → {w : Walked} → Walks ys L false r left_over (length lengths - h.segments) w → {ns : List ℕ} {ts : List ℤ} →
      ns ≡ sets lengths h.segments (line_lengths (take w.segments (rest ys L false r))) →
      ts ≡ sets totals h.segments (line_totals (take w.segments (rest ys L false r))) →
      Walks ys L false (start_of ys L) budget (length a) (record { segments = h.segments + w.segments; next = w.next })
      × ((ns ≡ sets a 0 (line_lengths (take (h.segments + w.segments) (whole ys L)))) × (ts ≡ sets b 0 (line_totals (take (h.segments + w.segments) (whole ys L)))))
  concluded e {w} H f g =
      joined held (omega (arith, A.most, e)) w H (omega (arith, lengths-long _ _ _ _ _ _ held.written, A.ahead, inside ys L W h.i h.c A.held, room)) f g

pub variables-r-requires-clause-c_near : goal.variables-r-requires-clause-c_near
variables-r-requires-clause-c_near c = near _ _ c.args.series.limited _ _ c.forward-h.ensures.answer.held

pub returns-clause-answer : goal.returns-clause-answer
returns-clause-answer c =
    let f = c.forward-h.ensures in
    let w = c.conclude-w.ensures in
    (concluded c.args.series.limited _ _ c.requires.lengths_room f.answer f.lengths f.totals c.variables-r.ensures c.saturating_sub-left.ensures w.answer w.lengths w.totals).0

pub returns-clause-lengths : goal.returns-clause-lengths
returns-clause-lengths c =
    let f = c.forward-h.ensures in
    let w = c.conclude-w.ensures in
    (concluded c.args.series.limited _ _ c.requires.lengths_room f.answer f.lengths f.totals c.variables-r.ensures c.saturating_sub-left.ensures w.answer w.lengths w.totals).1.0

pub returns-clause-totals : goal.returns-clause-totals
returns-clause-totals c =
    let f = c.forward-h.ensures in
    let w = c.conclude-w.ensures in
    (concluded c.args.series.limited _ _ c.requires.lengths_room f.answer f.lengths f.totals c.variables-r.ensures c.saturating_sub-left.ensures w.answer w.lengths w.totals).1.1
