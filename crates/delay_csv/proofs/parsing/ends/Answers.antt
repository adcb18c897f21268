-- `delay_csv::parsing::ends`: CR, and LF after it.
use mathlib.Core.Path.{sym, ◌∙◌}
use Rattle.delay_csv.proofs.StartLaws.{ends_at}
use Rattle.delay_csv.proofs.parsing.ends.Goals as goal

pub returns-then-holds : goal.returns-then-holds
returns-then-holds c = c.holds-then-holds.ensures ∙ sym (ends_at c.args.text.now c.args.at ∙ rw (sym c.holds.ensures ∙ c.if-holds.true))

pub returns-else-holds : goal.returns-else-holds
returns-else-holds c = c.if-holds.false ∙ sym (ends_at c.args.text.now c.args.at ∙ rw (sym c.holds.ensures ∙ c.if-holds.false))
