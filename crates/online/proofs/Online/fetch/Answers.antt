-- `online::Online::fetch`: the tests, and then what is drawn; nothing where nothing was taken.
use mathlib.Core.Path.{sym}
use mathlib.Core.Bool.{not}
use lib.ListN.{length}
use Rattle.online.proofs.FetchLaws.{fetchable-given}
use Rattle.online.proofs.SegmentLaws.{nothing-told, refusal-told, segments-told, fetch_promised}
use Rattle.online.proofs.Online.fetch.Goals as goal

pub returns-in_err-fetchable-clause-lengths : goal.returns-in_err-fetchable-clause-lengths
returns-in_err-fetchable-clause-lengths c =
    let a = c.args in
    (refusal-told a.self a.samples.now a.lengths.now a.totals.now a.self.closed (not a.self.closed) _ _ (sym c.in_err-fetchable.ensures.answer)).1.0

pub returns-in_err-fetchable-clause-totals : goal.returns-in_err-fetchable-clause-totals
returns-in_err-fetchable-clause-totals c =
    let a = c.args in
    (refusal-told a.self a.samples.now a.lengths.now a.totals.now a.self.closed (not a.self.closed) _ _ (sym c.in_err-fetchable.ensures.answer)).1.1

pub returns-then-self-eq0 : goal.returns-then-self-eq0
returns-then-self-eq0 c =
    let a = c.args in
    let s = a.self in
    let ys = a.samples.now in
    let ns = a.lengths.now in
    let ts = a.totals.now in
    let passes = sym c.in_ok-fetchable.ensures.answer in
    let F = (fetchable-given s s.closed ys (length ns) (length ts) passes).0 in
    let t = fetch_promised s ys ns ts _ _ _ (segments-told s ys ns ts s.closed (not s.closed) _ _ _ passes (nothing-told s ys ns ts F c.if-self-eq0.true)) in
    record { answer = t.0; lengths = t.1.0; totals = t.1.1.0; finalized = t.1.1.1.0; whole = t.1.1.1.1 }

pub returns : goal.returns
returns c =
    let a = c.args in
    let s = a.self in
    let ys = a.samples.now in
    let ns = a.lengths.now in
    let ts = a.totals.now in
    let d = c.draw.ensures in
    let t = fetch_promised s ys ns ts _ _ _ (segments-told s ys ns ts s.closed (not s.closed) _ _ _ (sym c.in_ok-fetchable.ensures.answer) (d.answer, (d.lengths, d.totals))) in
    record { answer = t.0; lengths = t.1.0; totals = t.1.1.0; finalized = t.1.1.1.0; whole = t.1.1.1.1 }
