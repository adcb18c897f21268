-- `delay_csv::parsing::after_minute`: the number there is the minute, and a comma follows it.
use mathlib.Core.Path.{sym, ◌∙◌}
use Rattle.delay_csv.proofs.FieldLaws.{no_number, other-minute, no_comma, minute-found}
use Rattle.delay_csv.proofs.parsing.after_minute.Goals as goal
use Rattle.delay_csv.proofs.parsing.after_minute.Goals.{then-value-minute-via-then-value-minute, then-value-minute-via-else-value-minute+then-not-holds}

pub returns-in_err-value : goal.returns-in_err-value
returns-in_err-value c = rw c.from_residual.ensures (no_number c.args.text.now c.args.at c.args.minute (c.in_err-value.ensures))

pub returns-then-value-minute : goal.returns-then-value-minute
returns-then-value-minute c =
    let a = c.args in
    let there = c.in_ok-value.ensures in
    elim c.then-value-minute.branch [
      | then-value-minute-via-then-value-minute w ↦ other-minute a.text.now a.at a.minute _ _ there c.requires.minute_bound w.if-value-minute.true
      | then-value-minute-via-else-value-minute+then-not-holds w ↦ no_comma a.text.now a.at a.minute _ _ there (sym w.holds.ensures ∙ w.if-not-holds.true)
    ]

pub returns : goal.returns
returns c =
    let a = c.args in
    minute-found a.text.now a.at a.minute _ _ (c.in_ok-value.ensures) c.if-value-minute.false c.requires.minute_bound (sym c.holds.ensures ∙ c.if-not-holds.false)
