use Rattle.taut.proofs.MinuteLaws.{at-is-small, next_small, seen, stays, left-low, left-high}
use Rattle.taut.proofs.string.minute.Goals as goal
use Rattle.taut.proofs.string.minute.Goals.{else-not-falls-via-then-not-falls+else-not-below, else-not-falls-via-else-not-falls}

pub next-t-requires-clause-at_small : goal.next-t-requires-clause-at_small
next-t-requires-clause-at_small c = let x = c.args.input in at-is-small x c.requires.kept_before

pub next-t-requires-clause-further_small : goal.next-t-requires-clause-further_small
next-t-requires-clause-further_small c =
    let x = c.args.input in next_small x c.requires.kept_before c.requires.k_in_bounds

pub below-falls-requires-clause-a_small : goal.below-falls-requires-clause-a_small
below-falls-requires-clause-a_small c =
    let x = c.args.input in (seen x c.requires.kept_before c.requires.k_in_bounds c.next-t.ensures).roof

pub below-falls-requires-clause-b_small : goal.below-falls-requires-clause-b_small
below-falls-requires-clause-b_small c =
    let x = c.args.input in (seen x c.requires.kept_before c.requires.k_in_bounds c.next-t.ensures).low

pub below-requires-clause-a_small : goal.below-requires-clause-a_small
below-requires-clause-a_small c =
    let x = c.args.input in (seen x c.requires.kept_before c.requires.k_in_bounds c.next-t.ensures).high

pub below-requires-clause-b_small : goal.below-requires-clause-b_small
below-requires-clause-b_small c =
    let x = c.args.input in (seen x c.requires.kept_before c.requires.k_in_bounds c.next-t.ensures).floor

pub more-requires : goal.more-requires
more-requires c = let x = c.args.input in seen x c.requires.kept_before c.requires.k_in_bounds c.next-t.ensures

pub returns-then-not-below-clause-kept : goal.returns-then-not-below-clause-kept
returns-then-not-below-clause-kept c =
    let x = c.args.input in
    stays x c.requires.kept_before c.requires.k_in_bounds c.next-t.ensures c.below-falls.ensures c.below.ensures
    c.if-not-falls.true c.if-not-below.true c.more.ensures

pub leave-requires-clause-leaving : goal.leave-requires-clause-leaving
leave-requires-clause-leaving c =
    let x = c.args.input in
    let R = c.requires in
    elim c.else-not-falls.branch [
      | else-not-falls-via-then-not-falls+else-not-below w ↦
          left-high x R.kept_before R.k_in_bounds c.next-t.ensures c.below-falls.ensures w.below.ensures
          w.if-not-falls.true w.if-not-below.false c.choose-v.ensures
      | else-not-falls-via-else-not-falls w ↦
          left-low x R.kept_before R.k_in_bounds c.next-t.ensures c.below-falls.ensures w.if-not-falls.false c.choose-v.ensures
    ]
