-- `delay_csv::parsing::record`: the minute, and the delay after it.
use Rattle.delay_csv.proofs.FieldLaws.{no_minute, minute-within, record-found}
use Rattle.delay_csv.proofs.parsing.record.Goals as goal

pub returns-in_err-after : goal.returns-in_err-after
returns-in_err-after c = rw c.from_residual.ensures (no_minute c.args.text.now c.args.at c.args.minute (c.in_err-after.ensures))

pub delay-requires : goal.delay-requires
delay-requires c = minute-within c.args.text.now c.args.at c.args.minute _ c.requires.at_in_bounds (c.in_ok-after.ensures)

pub returns : goal.returns
returns c = record-found c.args.text.now c.args.at c.args.minute _ _ (c.in_ok-after.ensures) c.delay.ensures
