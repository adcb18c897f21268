-- `console::dawhikura_chart_mark`: the place of a refusal is near where the line has few segments.
use mathlib.Core.Path.{ap, ◌∙◌}
use mir.Syntax.{w64}
use mir.Val.{SFits}
use mir.Facts.{to_z-of_z}
use Rattle.chart.proofs.PlaceLaws.{mark_placed}
use Rattle.console.specs.Code.{code, told}
use Rattle.console.specs.Mark.{kind_of}
use Rattle.console.proofs.ToldPlaces.{plainly}
use Rattle.console.proofs.dawhikura_chart_mark.Goals as goal

pub returns-in-Refused-clause-plain : goal.returns-in-Refused-clause-plain
returns-in-Refused-clause-plain c =
    let a = c.args in
    let r : SFits w64 c.refusal.result = record { sfits = c.refusal.type_inv } in
    plainly (λ k. code (kind_of a.levels.now k)) (λ h. mark_placed a.minutes a.lengths.now a.totals.now h a.minute)
    (to_z-of_z r ∙ c.refusal.ensures.answer ∙ ap (λ k. code (kind_of a.levels.now (told k))) c.in-Refused.ensures.answer)
