-- `console::tell`: the three entries.
use Rattle.console.proofs.ReadingLaws.{three-set}
use Rattle.console.proofs.tell.Goals as goal

pub returns-clause-out : goal.returns-clause-out
returns-clause-out c = let a = c.args in three-set a.head.minutes a.head.segments a.head.smoothing a.out.now c.requires
