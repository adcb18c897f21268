-- `console::dawhikura_series_balances`: the place of a refusal is near.
use mathlib.Core.Path.{ap, ◌∙◌}
use mir.Syntax.{w64}
use mir.Val.{SFits}
use mir.Facts.{to_z-of_z}
use lib.ListN.{length}
use Rattle.denoise.proofs.PlaceLaws.{balances_placed}
use Rattle.console.specs.Code.{code_of_all, told}
use Rattle.console.proofs.ToldPlaces.{told_near}
use Rattle.console.proofs.dawhikura_series_balances.Goals as goal

pub returns-in-Err-clause-answer : goal.returns-in-Err-clause-answer
returns-in-Err-clause-answer c =
    let a = c.args in
    let n = length a.samples.now in
    let r : SFits w64 c.refusal.result = record { sfits = c.refusal.type_inv } in
    to_z-of_z r ∙ c.refusal.ensures.answer ∙ ap (λ k. code_of_all n (told k)) c.in-Err.ensures.answer ∙ ap (code_of_all n) (told_near (balances_placed a.samples.now a.smoothing a.out.now))
