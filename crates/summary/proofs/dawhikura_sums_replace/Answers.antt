-- `summary::dawhikura_sums_replace`: the place of a refusal is near.
use mathlib.Core.Path.{ap, ◌∙◌}
use mir.Syntax.{w64}
use mir.Val.{SFits}
use mir.Facts.{to_z-of_z}
use Rattle.sums.proofs.PlaceLaws.{replace_placed}
use Rattle.console.specs.Code.{code, told}
use Rattle.console.proofs.ToldPlaces.{told_near}
use Rattle.summary.proofs.dawhikura_sums_replace.Goals as goal

pub returns-clause-answer : goal.returns-clause-answer
returns-clause-answer c =
    let a = c.args in
    let r : SFits w64 c.code.result = record { sfits = c.code.type_inv } in
    to_z-of_z r ∙ c.code.ensures.answer ∙ ap (λ k. code (told k)) (rw (to_z-of_z c.ranges.sample) at c.replace.ensures.answer)
    ∙ ap code (told_near (replace_placed a.samples.now a.summary.now a.minute a.sample))
