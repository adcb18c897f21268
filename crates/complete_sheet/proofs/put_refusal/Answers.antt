-- `complete_sheet::put_refusal`: the parts of the line, one after the other.
use native.Mathlib.Omega.{arith}
use Rattle.level.specs.Refusal.{number, place}
use Rattle.complete_sheet.specs.Report.{refusal}
use Rattle.complete_sheet.proofs.OutputParts.{Put, put-refusal}
use Rattle.complete_sheet.proofs.put_refusal.Goals as goal

put : (c : goal.After-slice_known-6-1) → Put c.args.out.now 0 50 (refusal (number c.args.r) (place c.args.r)) c.put_bytes.result c.put_bytes.new.out
put c =
    let a = c.put_bytes-at.ensures in
    let b = c.put_decimal-at.ensures in
    let d = c.put_bytes-at-2.ensures in
    let e = c.put_decimal-at-2.ensures in
    let r =
    put-refusal c.args.out.now c.number.result c.place.result (omega (arith, c.requires)) (a.answer, a.out) (b.answer, (b.most, b.out)) (d.answer, d.out) (e.answer, (e.most, e.out))
    (c.put_bytes.ensures.answer, c.put_bytes.ensures.out) in
    rw (c.number.ensures, c.place.ensures) at r

pub returns-clause-answer : goal.returns-clause-answer
returns-clause-answer c = omega (arith, (put c).place)

pub returns-clause-out : goal.returns-clause-out
returns-clause-out c = (put c).bytes
