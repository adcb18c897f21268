-- `console::dawhikura_sheet_write`: the place of a refusal is near where the line has few segments.
use mathlib.Core.Path.{ap, ◌∙◌}
use mir.Syntax.{w64}
use mir.Val.{SFits}
use mir.Facts.{to_z-of_z}
use native.Mathlib.Omega.{arith}
use Rattle.sheet.proofs.PlaceLaws.{write_placed}
use Rattle.console.specs.Code.{code, told}
use Rattle.console.proofs.ToldPlaces.{plainly}
use Rattle.console.proofs.dawhikura_sheet_write.Goals as goal

pub returns-in-Err-clause-plain : goal.returns-in-Err-clause-plain
returns-in-Err-clause-plain c =
    let a = c.args in
    let r : SFits w64 c.refusal.result = record { sfits = c.refusal.type_inv } in
    plainly code (write_placed a.samples.now a.smoothing a.lengths.now a.totals.now a.out.now (omega arith))
    (to_z-of_z r ∙ c.refusal.ensures.answer ∙ ap (λ k. code (told k)) c.in-Err.ensures.answer)
