-- `console::dawhikura_series_check`: the place of a refusal is near where the line has few segments.
use mathlib.Core.Path.{ap, ◌∙◌}
use mir.Syntax.{w64}
use mir.Val.{SFits}
use mir.Facts.{to_z-of_z}
use native.Mathlib.Omega.{arith}
use Rattle.checker.proofs.PlaceLaws.{check-placed}
use Rattle.console.specs.Code.{code_of_none, told}
use Rattle.console.proofs.ToldPlaces.{plainly}
use Rattle.console.proofs.dawhikura_series_check.Goals as goal

pub returns-clause-plain : goal.returns-clause-plain
returns-clause-plain c =
    let a = c.args in
    let r : SFits w64 c.verdict.result = record { sfits = c.verdict.type_inv } in
    plainly code_of_none (check-placed a.samples.now a.smoothing a.lengths.now a.totals.now (omega arith))
    (to_z-of_z r ∙ c.verdict.ensures.answer ∙ ap (λ k. code_of_none (told k)) c.check.ensures.answer)
