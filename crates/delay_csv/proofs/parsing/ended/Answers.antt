-- `delay_csv::parsing::ended`: a number, and CR LF after it.
use mathlib.Core.Path.{sym, ◌∙◌}
use Rattle.delay_csv.proofs.FieldLaws.{no_size, no_end, size-found}
use Rattle.delay_csv.proofs.parsing.ended.Goals as goal

pub returns-in_err-value : goal.returns-in_err-value
returns-in_err-value c = rw c.from_residual.ensures (no_size c.args.text.now c.args.at (c.in_err-value.ensures))

pub returns-then-not-ends : goal.returns-then-not-ends
returns-then-not-ends c = no_end c.args.text.now c.args.at _ _ (c.in_ok-value.ensures) (sym c.ends.ensures ∙ c.if-not-ends.true)

pub returns : goal.returns
returns c = size-found c.args.text.now c.args.at _ _ (c.in_ok-value.ensures) (sym c.ends.ensures ∙ c.if-not-ends.false)
