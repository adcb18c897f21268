-- `complete_sheet::put_heading`: the parts of the heading, one after the other.
use native.Mathlib.Omega.{arith}
use Rattle.complete_sheet.specs.Report.{heading}
use Rattle.complete_sheet.proofs.OutputParts.{Put, put-heading}
use Rattle.complete_sheet.proofs.put_heading.Goals as goal

put : (c : goal.After-slice_known-8-1) → Put c.args.out.now 0 90 (heading c.args.minutes c.args.smoothing c.args.segments) c.put_bytes.result c.put_bytes.new.out
put c =
    let a = c.put_bytes-a.ensures in
    let b = c.put_decimal-b.ensures in
    let d = c.put_bytes-c.ensures in
    let e = c.put_decimal-d.ensures in
    let f = c.put_bytes-e.ensures in
    let g = c.put_decimal-f.ensures in
    put-heading c.args.out.now c.args.minutes c.args.smoothing c.args.segments c.requires (a.answer, a.out) (b.answer, (b.most, b.out)) (d.answer, d.out) (e.answer, (e.most, e.out)) (f.answer, f.out)
    (g.answer, (g.most, g.out)) (c.put_bytes.ensures.answer, c.put_bytes.ensures.out)

pub returns-clause-answer : goal.returns-clause-answer
returns-clause-answer c = omega (arith, (put c).place)

pub returns-clause-out : goal.returns-clause-out
returns-clause-out c = (put c).bytes
