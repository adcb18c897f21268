-- `complete_sheet::draw`: the line that was filed, or the one that is drawn.
use Rattle.sheet.proofs.OwnLine.{has}
use Rattle.complete_sheet.proofs.draw.Goals as goal

pub returns-then-f-gt0 : goal.returns-then-f-gt0
returns-then-f-gt0 c =
    let w = c.requires.limited in
    let o = c.requires.own c.if-f-gt0.true in
    has c.args.samples.now c.args.f.smoothing c.args.f.segments c.args.lengths.now c.args.totals.now w.some w.few o.0 o.1.0 o.1.1

pub returns : goal.returns
returns c =
    let w = c.requires.limited in
    let E = c.draw.ensures in
    has c.args.samples.now c.args.f.smoothing _ _ _ w.some w.few E.answer E.lengths E.totals
