-- `online::Online::close`: what is drawn is the line of the samples taken.
use mathlib.Core.Path.{sym, ap, ◌∙◌}
use mathlib.Core.Bool.{true, false}
use lib.ListN.{length}
use Rattle.level.specs.Answer.{given}
use Rattle.series.proofs.Refusals.{passed}
use Rattle.online.specs.Calls.{segments_of}
use Rattle.online.proofs.FetchLaws.{fetchable-alike}
use Rattle.online.proofs.SegmentLaws.{whole}
use Rattle.online.proofs.Online.close.Goals as goal

pub returns-clause-whole : goal.returns-clause-whole
returns-clause-whole c =
    let a = c.args in
    let s = a.self.now in
    let ys = a.samples.now in
    let ns = a.lengths.now in
    let ts = a.totals.now in
    let e = (passed (fetchable-alike s true ys (length ns) (length ts) (given (length (segments_of s false ys)))) (sym c.in_ok-fetchable.ensures.answer)).1 in
    whole s ys ns ts _ (e ∙ ap given (sym c.draw-m.ensures.answer)) c.draw-m.ensures.lengths c.draw-m.ensures.totals
