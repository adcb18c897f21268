-- `fast::copying::finish_with`: the first segments are copied to the one pair of lists, and the line from there to the other.
use Rattle.std.proofs.Common.{arith, ◌∙◌}
use lib.Seq.{length-take-le}
use Rattle.fast.proofs.RestLaws.{first-copied}
use Rattle.fast.proofs.copying.finish_with.Goals as goal

pub finish-n-requires-clause-lengths_drawn : goal.finish-n-requires-clause-lengths_drawn
finish-n-requires-clause-lengths_drawn g c =
    let P = c.requires.leaves_off in
    first-copied _ _ _ _ (length-take-le _ _ (omega (arith, P.few, P.before, c.requires.lengths_room))) c.copy.ensures ∙ c.requires.lengths_drawn

pub finish-n-requires-clause-totals_drawn : goal.finish-n-requires-clause-totals_drawn
finish-n-requires-clause-totals_drawn g c =
    let P = c.requires.leaves_off in
    first-copied _ _ _ _ (length-take-le _ _ (omega (arith, P.few, P.before, c.requires.totals_room))) c.copy-2.ensures ∙ c.requires.totals_drawn
