-- `sheet::reader::fill`: the refusals of the lists do not ask for the room.
use mathlib.Core.Path.{◌≡◌, sym}
use Rattle.std.proofs.Common.{arith}
use Rattle.std.proofs.lemmas.Grind.{common_steps}
use Rattle.level.specs.Answer.{refused}
use Rattle.level.specs.Refusal.{number, place}
use Rattle.series.specs.Limits.{in_limits}
use Rattle.series.proofs.Refusals.{stopped}
use Rattle.sheet.specs.Read.{filed, with_room}
use Rattle.sheet.proofs.SheetRefusals.{tested-alike}
use Rattle.sheet.proofs.reader.fill.Goals as goal

pub returns-in_err-check_filed-clause-answer : goal.returns-in_err-check_filed-clause-answer
returns-in_err-check_filed-clause-answer c =
    let a = c.args in
    let r = c.in_err-check_filed.field-0.0 in
    let t : in_limits a.ys.now a.head.smoothing (filed a.ys.now a.head.smoothing a.ns.now a.ts.now (with_room a.head a.samples.now a.lengths.now a.totals.now)) ≡ refused (number r) (place r) =
    stopped (tested-alike a.ys.now a.head.smoothing a.ns.now a.ts.now) (sym c.in_err-check_filed.ensures.answer) in
    grind (arith, common_steps, t)
