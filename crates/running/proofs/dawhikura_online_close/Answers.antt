-- `running::dawhikura_online_close`: the place of a refusal is near.
use mathlib.Core.Path.{◌≡◌, sym, ap, ◌∙◌}
use borrow.Author.Tests.{le-ltb}
use lib.ListN.{length}
use mir.Syntax.{w64}
use mir.Val.{SFits}
use mir.Facts.{to_z-of_z}
use Rattle.level.specs.Answer.{refused}
use Rattle.level.specs.Refusal.{number, place}
use Rattle.online.specs.Calls.{close_of}
use Rattle.online.proofs.PlaceLaws.{close-placed}
use Rattle.console.specs.Code.{refusal, code}
use Rattle.console.proofs.ToldPlaces.{told_refused}
use Rattle.running.specs.Entries.{state_of, closing_of}
use Rattle.running.proofs.dawhikura_online_close.Goals as goal

pub returns-in-Err-clause-answer : goal.returns-in-Err-clause-answer
returns-in-Err-clause-answer c =
    let a = c.args in
    let n = number c.in-Err.r in
    let h : close_of (state_of a.state.now) a.samples.now a.lengths.now a.totals.now ≡ refused n (place c.in-Err.r) = sym (rw c.state_of-s.ensures at (c.in-Err.ensures).answer) in
    let e : closing_of a.state.now a.samples.now a.lengths.now a.totals.now ≡ refused n (place c.in-Err.r) = rw (le-ltb (length a.state.now) 3 c.if-state-lt3.false) h in
    let r : SFits w64 c.refusal-in-Err.result = record { sfits = c.refusal-in-Err.type_inv } in
    to_z-of_z r ∙ c.refusal-in-Err.ensures.answer
    ∙ ap (refusal n) (told_refused (close-placed (state_of a.state.now) a.samples.now a.lengths.now a.totals.now) h)
    ∙ ap code (sym e)
