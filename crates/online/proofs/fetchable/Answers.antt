-- `online::fetchable`: where none of the tests is met, the samples taken are all in the list, and within the limits.
use mathlib.Core.Path.{◌≡◌, sym}
use native.Mathlib.Omega.{arith}
use Rattle.series.proofs.LimitsLaws.{bounds-given}
use Rattle.online.proofs.FetchLaws.{limited}
use Rattle.online.proofs.fetchable.Goals as goal

pub returns-clause-limited : goal.returns-clause-limited
returns-clause-limited c h =
    let n : c.min-n.result ≡ c.args.s.taken = omega (arith, c.min-n.ensures, c.if-samples-s.false) in
    limited c.args.s _ c.if-samples-s.false (bounds-given _ _ _ (sym (rw n at c.in_ok-bounds.ensures.answer))).0 h
