-- `fused_lasso::line`: what is drawn is the line above the floor, which alone has least cost.
use mathlib.Core.Path.{sym}
use Rattle.fused_lasso.proofs.LineLaws.{line-promised}
use Rattle.fused_lasso.proofs.line.Goals as goal

pub returns : goal.returns
returns c =
    let a = c.args in
    let s = c.in_ok-series.ensures in
    let e = c.threshold.ensures in
    let t = line-promised a.samples.now a.smoothing a.floor a.lengths.now a.totals.now _ _ _ (sym s.answer)
    (rw (s.samples, s.smoothing) at e.answer, (rw (s.samples, s.smoothing) at e.lengths, rw (s.samples, s.smoothing) at e.totals)) in
    record { answer = t.0; lengths = t.1.0; totals = t.1.1.0; least = t.1.1.1.0; only = t.1.1.1.1 }
