-- `console::show`: the two entries.
use mathlib.Core.Path.{◌≡◌}
use borrow.Author.Tests.{le-ltb}
use Rattle.level.specs.Answer.{given}
use Rattle.console.specs.Mark.{room}
use Rattle.console.proofs.ReadingLaws.{two-set}
use Rattle.console.proofs.show.Goals as goal

pub returns-clause-levels : goal.returns-clause-levels
returns-clause-levels c =
    let a = c.args in
    let e : room a.levels.now a.kind ≡ given a.kind = rw (le-ltb _ _ c.if-levels-lt2.false) in
    rw e (two-set a.from a.to a.levels.now c.if-levels-lt2.false)
