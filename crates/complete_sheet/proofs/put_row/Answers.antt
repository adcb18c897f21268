-- `complete_sheet::put_row`: the parts of a row, one after the other.
use mir.Facts.{to_z-of_z}
use mir.Syntax.{w64}
use mir.Val.{to_z, of_z}
use Rattle.text.specs.Decimal.{signed_decimal}
use native.Mathlib.Omega.{arith}
use Rattle.complete_sheet.specs.Report.{row}
use Rattle.complete_sheet.proofs.OutputParts.{Put, Number, put-row}
use Rattle.complete_sheet.proofs.put_row.Goals as goal

put : (c : goal.After-slice_known-7-1) → Put c.args.out.now c.args.at 63 (row c.args.first c.args.minutes c.args.total) c.put_bytes.result c.put_bytes.new.out
put c =
    let a = c.put_decimal-at.ensures in
    let b = c.put_bytes-at.ensures in
    let d = c.put_decimal-at-2.ensures in
    let e = c.put_bytes-at-2.ensures in
    let t = c.put_signed_decimal-at.ensures in
    let f = to_z-of_z {w = w64} c.ranges.total in
    let n : Number c.put_bytes-at-2.new.out c.put_bytes-at-2.result (signed_decimal (to_z w64 (of_z w64 c.args.total))) c.put_signed_decimal-at.result c.put_signed_decimal-at.new.out =
    (t.answer, (t.most, t.out)) in
    put-row c.args.out.now c.args.at c.args.first c.args.minutes c.args.total (omega (arith, c.requires)) (a.answer, (a.most, a.out)) (b.answer, b.out) (d.answer, (d.most, d.out)) (e.answer, e.out)
    (rw f at n) (c.put_bytes.ensures.answer, c.put_bytes.ensures.out)

pub returns-clause-answer : goal.returns-clause-answer
returns-clause-answer c = (put c).place

pub returns-clause-out : goal.returns-clause-out
returns-clause-out c = (put c).bytes
