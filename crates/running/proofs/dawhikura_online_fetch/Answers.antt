-- `running::dawhikura_online_fetch`: the place of a refusal is near.
use mathlib.Core.Path.{◌≡◌, ap, ◌∙◌}
use borrow.Author.Tests.{le-ltb}
use lib.ListN.{length}
use mir.Syntax.{w64}
use mir.Val.{SFits}
use mir.Facts.{to_z-of_z}
use Rattle.level.specs.Answer.{answer_of}
use Rattle.online.specs.Calls.{fetch_of}
use Rattle.online.proofs.PlaceLaws.{fetch_placed}
use Rattle.console.specs.Code.{code, told}
use Rattle.console.proofs.ToldPlaces.{told_near}
use Rattle.running.specs.Entries.{state_of}
use Rattle.running.proofs.dawhikura_online_fetch.Goals as goal

pub returns-clause-answer : goal.returns-clause-answer
returns-clause-answer c =
    let a = c.args in
    let h : answer_of c.fetch.result ≡ fetch_of (state_of a.state.now) a.samples.now a.lengths.now a.totals.now = rw c.state_of.ensures at c.fetch.ensures.answer in
    let r : SFits w64 c.code.result = record { sfits = c.code.type_inv } in
    rw (le-ltb (length a.state.now) 3 c.if-state-lt3.false)
    (to_z-of_z r ∙ c.code.ensures.answer ∙ ap (λ k. code (told k)) h ∙ ap code (told_near (fetch_placed (state_of a.state.now) a.samples.now a.lengths.now a.totals.now)))
