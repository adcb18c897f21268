-- `running::keep`: the three entries.
use mathlib.Core.Path.{ap, ◌∙◌}
use lib.ListN.{set}
use Rattle.console.proofs.ReadingLaws.{three-set}
use Rattle.running.proofs.EntryLaws.{told-closed}
use Rattle.running.proofs.keep.Goals as goal

pub returns : goal.returns
returns c =
    let a = c.args in
    let s = a.s in
    ap (set (set (set a.state.now 0 s.smoothing) 1 s.taken) 2) (told-closed s.closed) ∙ three-set s.smoothing s.taken _ a.state.now c.requires
