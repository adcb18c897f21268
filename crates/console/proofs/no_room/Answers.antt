-- `console::no_room`: a reading refuses in this order before it looks at the lists' room.
use mathlib.Core.Path.{◌∙◌}
use mir.Syntax.{w64}
use mir.Val.{SFits}
use mir.Facts.{to_z-of_z}
use Rattle.console.proofs.ReadingLaws.{nowhere-told}
use Rattle.console.proofs.no_room.Goals as goal

pub returns : goal.returns
returns c =
    let r : SFits w64 c.refusal.result = record { sfits = c.refusal.type_inv } in
    to_z-of_z r ∙ c.refusal.ensures.answer ∙ rw (c.unwrap_or.ensures, c.err.ensures.value) (nowhere-told c.args.sheet.now c.read-read.result c.read-read.ensures.answer)
