-- `complete_sheet::put_line`: the heading, then the rows.
use Rattle.complete_sheet.proofs.OutputParts.{put-line}
use Rattle.complete_sheet.proofs.put_line.Goals as goal

pub returns-clause-answer : goal.returns-clause-answer
returns-clause-answer c =
    let h = c.put_heading-next.ensures in
    let r = c.put_rows.ensures in
    (put-line c.args.out.now c.args.f.minutes c.args.f.smoothing c.args.lengths.now c.args.totals.now c.requires.lengths_few c.requires.out_room (h.answer, (h.most, h.out)) (r.answer, (r.most, r.out))).0

pub returns-clause-out : goal.returns-clause-out
returns-clause-out c =
    let h = c.put_heading-next.ensures in
    let r = c.put_rows.ensures in
    (put-line c.args.out.now c.args.f.minutes c.args.f.smoothing c.args.lengths.now c.args.totals.now c.requires.lengths_few c.requires.out_room (h.answer, (h.most, h.out)) (r.answer, (r.most, r.out))).1
