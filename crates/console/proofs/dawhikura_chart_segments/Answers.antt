-- `console::dawhikura_chart_segments`: the place of a refusal is near where the line has few segments.
use mathlib.Core.Path.{ap, ◌∙◌}
use mir.Syntax.{w64}
use mir.Val.{SFits}
use mir.Facts.{to_z-of_z}
use lib.ListN.{length}
use Rattle.chart.proofs.PlaceLaws.{segments-placed}
use Rattle.console.specs.Code.{code_of_all, told}
use Rattle.console.proofs.ToldPlaces.{plainly}
use Rattle.console.proofs.dawhikura_chart_segments.Goals as goal

pub returns-in-Err-clause-plain : goal.returns-in-Err-clause-plain
returns-in-Err-clause-plain c =
    let a = c.args in
    let n = length a.lengths.now in
    let r : SFits w64 c.refusal.result = record { sfits = c.refusal.type_inv } in
    plainly (code_of_all n) (λ h. segments-placed a.minutes a.lengths.now a.totals.now h a.firsts.now a.lasts.now a.levels.now)
    (to_z-of_z r ∙ c.refusal.ensures.answer ∙ ap (λ k. code_of_all n (told k)) c.in-Err.ensures.answer)
