-- `fused_lasso::drawable`: 2 and 4 without a sample.
use mathlib.Core.Path.{sym, ◌∙◌}
use borrow.Author.Tests.{eqb-false}
use Rattle.std.proofs.Common.{arith}
use Rattle.std.proofs.lemmas.Grind.{common_steps}
use Rattle.series.specs.Answer.{passing}
use Rattle.fused_lasso.proofs.LineLaws.{two-or-four}
use Rattle.fused_lasso.proofs.drawable.Goals as goal

pub returns-in_err-bounds-clause-answer : goal.returns-in_err-bounds-clause-answer
returns-in_err-bounds-clause-answer c =
    let a = c.args in
    let some = eqb-false _ 0 (sym c.is_empty.ensures ∙ c.if-is_empty.false) in
    let t = two-or-four a.samples.now a.smoothing a.floor a.lengths a.totals passing some (sym c.in_err-bounds.ensures.answer) in
    grind (arith, common_steps, t)
