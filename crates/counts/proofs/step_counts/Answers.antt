-- `counts::step_counts`: what the first entries are, where nothing is refused.
use mathlib.Core.Path.{sym}
use lib.ListN.{length}
use Rattle.level.specs.Answer.{given}
use Rattle.counts.proofs.CallLaws.{countable-given, filled-each, filled-all}
use Rattle.counts.proofs.step_counts.Goals as goal

pub returns-clause-each : goal.returns-clause-each
returns-clause-each c = let a = c.args in filled-each a.minutes a.top a.smoothing a.counts.now c.count.ensures

pub returns-clause-all : goal.returns-clause-all
returns-clause-all c =
    let a = c.args in
    let W = (countable-given a.minutes a.top a.smoothing (length a.counts.now) {a = given tt} (sym c.in_ok-countable.ensures)).0 in
    filled-all a.minutes a.top a.smoothing a.counts.now c.count.ensures W.some
