-- `console::dawhikura_sheet_complete`: the place of a refusal is near.
use mathlib.Core.Path.{ap, ◌∙◌}
use mir.Syntax.{w64}
use mir.Val.{SFits}
use mir.Facts.{to_z-of_z}
use Rattle.sheet.proofs.PlaceLaws.{complete_placed}
use Rattle.console.specs.Code.{code, told}
use Rattle.console.proofs.ToldPlaces.{told_near}
use Rattle.console.proofs.dawhikura_sheet_complete.Goals as goal

pub returns-in-Err-clause-answer : goal.returns-in-Err-clause-answer
returns-in-Err-clause-answer c =
    let a = c.args in
    let r : SFits w64 c.refusal.result = record { sfits = c.refusal.type_inv } in
    to_z-of_z r ∙ c.refusal.ensures.answer ∙ ap (λ k. code (told k)) c.in-Err.ensures.answer ∙ ap code (told_near (complete_placed a.sheet.now a.out.now))
