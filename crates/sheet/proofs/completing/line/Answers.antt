-- `sheet::completing::line`: the line that was filed and passes the check, or the one that is drawn.
use mathlib.Core.Path.{sym}
use Rattle.sheet.proofs.OwnLine.{drawn-line, filed_line}
use Rattle.sheet.proofs.completing.line.Goals as goal

pub returns-then-m-gt0-clause-answer : goal.returns-then-m-gt0-clause-answer
returns-then-m-gt0-clause-answer c =
    let a = c.args in
    (filed_line a.ys.now a.head.smoothing a.ns.now a.ts.now a.head.segments c.if-m-gt0.true c.requires.ns_room c.requires.ts_room (sym c.in_ok-series.ensures.answer)).0

pub returns-then-m-gt0-clause-has_line : goal.returns-then-m-gt0-clause-has_line
returns-then-m-gt0-clause-has_line c =
    let a = c.args in
    (filed_line a.ys.now a.head.smoothing a.ns.now a.ts.now a.head.segments c.if-m-gt0.true c.requires.ns_room c.requires.ts_room (sym c.in_ok-series.ensures.answer)).1

pub returns-clause-has_line : goal.returns-clause-has_line
returns-clause-has_line c =
    let a = c.args in
    let d = rw (c.in_ok-series.ensures.samples, c.in_ok-series.ensures.smoothing) at c.draw.ensures in
    (drawn-line a.ys.now a.head.smoothing a.ns.now a.ts.now a.head.segments _ _ _ (sym c.in_ok-series.ensures.answer) (d.answer, (d.lengths, d.totals))).1
