-- `floored::dawhikura_series_fused_lasso`: the place of a refusal is near.
use mathlib.Core.Path.{ap, ◌∙◌}
use mir.Syntax.{w64}
use mir.Val.{SFits}
use mir.Facts.{to_z-of_z}
use Rattle.fused_lasso.proofs.PlaceLaws.{line-placed}
use Rattle.console.specs.Code.{code, told}
use Rattle.console.proofs.ToldPlaces.{told_near}
use Rattle.floored.proofs.dawhikura_series_fused_lasso.Goals as goal

pub returns-clause-answer : goal.returns-clause-answer
returns-clause-answer c =
    let a = c.args in
    let r : SFits w64 c.code.result = record { sfits = c.code.type_inv } in
    to_z-of_z r ∙ c.code.ensures.answer ∙ ap (λ k. code (told k)) c.line.ensures.answer ∙ ap code (told_near (line-placed a.samples.now a.smoothing a.floor a.lengths.now a.totals.now))
