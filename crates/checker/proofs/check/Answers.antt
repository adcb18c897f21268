-- `checker::check`: what the walk concludes is the check, of which the clauses follow.
use mathlib.Core.Path.{◌≡◌, sym, ap, ◌∙◌}
use mathlib.Core.Bool.{Bool, true, false}
use mathlib.Core.List.{List}
use Prim.Native.Nat.{ℕ}
use lib.ListN.{length}
use lib.IntN.{ℤ}
use Rattle.optimality.specs.PlainSeries.{segments}
use Rattle.level.specs.Answer.{Answer, when_given}
use Rattle.series.specs.Optimality.{Least}
use Rattle.checker.specs.Check.{check_of, PassesOptimal}
use Rattle.checker.specs.Outline.{paired}
use Rattle.checker.specs.Walk.{walk_start, walk_of, conclude_of}
use Rattle.checker.specs.declared.walk.Walk.{Walk}
use Rattle.checker.proofs.WalkLaws.{unpaired-is, walk_is}
use Rattle.checker.proofs.CheckLaws.{promised}
use Rattle.checker.proofs.check.Goals as goal

pub returns-then-not-paired-clause-meets : goal.returns-then-not-paired-clause-meets
returns-then-not-paired-clause-meets c =
    let g = c.args in
    (promised g.samples.now g.smoothing g.lengths.now g.totals.now _
    (c.conclude.ensures
    ∙ ap (conclude_of g.samples.now g.smoothing false) c.start.ensures
    ∙ unpaired-is g.samples.now g.smoothing g.lengths.now g.totals.now (sym c.paired.ensures ∙ c.if-not-paired.true))).1.0

-- of two lists that are of one length
module _ (ys : List ℤ) (L : ℕ) (ns : List ℕ) (ts : List ℤ) {two : Bool} {w : Walk} {a : Answer (Unit {0})} where
  walked : two ≡ paired (length ns) (length ts) → two ≡ true → w ≡ walk_of L ys walk_start 1 ns ts → a ≡ conclude_of ys L true w →
      (a ≡ check_of ys L ns ts) × (PassesOptimal ys L ns ts a × when_given a (λ _. Least ys L (segments ns ts)))
  walked p t e f = promised ys L ns ts a (f ∙ ap (conclude_of ys L true) e ∙ walk_is ys L ns ts (sym p ∙ t))

pub returns-clause-answer : goal.returns-clause-answer
returns-clause-answer c = let g = c.args in (walked g.samples.now g.smoothing g.lengths.now g.totals.now c.paired.ensures c.if-not-paired.false c.whole.ensures c.conclude-2.ensures).0

pub returns-clause-meets : goal.returns-clause-meets
returns-clause-meets c = let g = c.args in (walked g.samples.now g.smoothing g.lengths.now g.totals.now c.paired.ensures c.if-not-paired.false c.whole.ensures c.conclude-2.ensures).1.0

pub returns-clause-least : goal.returns-clause-least
returns-clause-least c = let g = c.args in (walked g.samples.now g.smoothing g.lengths.now g.totals.now c.paired.ensures c.if-not-paired.false c.whole.ensures c.conclude-2.ensures).1.1
