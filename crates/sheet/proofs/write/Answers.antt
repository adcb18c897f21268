-- `sheet::write`: the refusals of the lists do not ask for the room, and what is accepted is few.
use mathlib.Core.Path.{◌≡◌, refl, sym}
use Rattle.std.proofs.Common.{arith}
use Rattle.std.proofs.lemmas.Grind.{common_steps}
use Rattle.level.specs.Answer.{refused}
use Rattle.level.specs.Refusal.{number, place}
use Rattle.series.proofs.Refusals.{stopped}
use Rattle.sheet.specs.Write.{write_of}
use Rattle.sheet.proofs.AcceptedLists.{accepted-lists}
use Rattle.sheet.proofs.SheetRefusals.{tested-alike}
use Rattle.sheet.proofs.write.Goals as goal

-- 1, 2, 4, 3 or 6 to 9
refuses : (c : goal.After-from_residual) → let a = c.args in
    let r = c.in_err-check_filed.field-0.0 in
    write_of a.samples.now a.smoothing a.lengths.now a.totals.now a.out.now ≡ refused (number r) (place r)
refuses c = let a = c.args in stopped (tested-alike a.samples.now a.smoothing a.lengths.now a.totals.now) (sym c.in_err-check_filed.ensures.answer)

pub returns-in_err-check_filed-clause-answer : goal.returns-in_err-check_filed-clause-answer
returns-in_err-check_filed-clause-answer c = let t = refuses c in grind (arith, common_steps, t)

pub returns-in_err-check_filed-clause-out : goal.returns-in_err-check_filed-clause-out
returns-in_err-check_filed-clause-out c = rw (refuses c) refl

pub put_sheet-requires-clause-lengths_few : goal.put_sheet-requires-clause-lengths_few
put_sheet-requires-clause-lengths_few c = let a = c.args in let j = accepted-lists a.samples.now a.smoothing a.lengths.now a.totals.now (sym c.in_ok-check_filed.ensures.answer) in omega (arith, j)
