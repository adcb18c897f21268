-- `checker::shape`: what the outline of a line tells is its shape.
use borrow.Author.Tests.{ne_eqb, le-ltb}
use mathlib.Core.Path.{refl, sym, ap, ◌∙◌}
use Rattle.level.specs.Answer.{given}
use Rattle.checker.specs.Outline.{verdict_of}
use Rattle.checker.proofs.OutlineLaws.{verdict-is}
use Rattle.checker.proofs.shape.Goals as goal

pub returns : goal.returns
returns c =
    let g = c.args in
    record {
      answer =
          rw (ne_eqb _ _ c.if-n-eq0.false, le-ltb _ _ c.if-n-gt-MINUTES.false)
          (c.verdict.ensures
          ∙ ap (λ o. verdict_of g.n o (given tt)) c.whole.ensures
          ∙ verdict-is g.n g.lengths.now g.totals.now c.if-n-gt-MINUTES.false (sym c.paired.ensures ∙ c.if-not-paired.false) (given tt) (given tt) (λ s. refl));
    }
