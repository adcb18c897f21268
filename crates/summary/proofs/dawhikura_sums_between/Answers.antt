-- `summary::dawhikura_sums_between`: what is refused, and the sum.
use mathlib.Core.Bool.{Bool, false, true≢false}
use mathlib.Core.List.{List, [], ◌∷◌}
use Rattle.std.specs.Prelude.{◌==◌}
use mathlib.Core.Path.{◌≡◌, sym, ap, ◌∙◌}
use native.Mathlib.Omega.{arith}
use lib.IntN.{ℤ}
use mir.Syntax.{w64}
use mir.Val.{SFits}
use mir.Facts.{to_z-of_z}
use lib.ListN.{length}
use Rattle.std.proofs.Common.{rules}
use Rattle.level.specs.Answer.{refused, given}
use Rattle.level.specs.Refusal.{number, place}
use Rattle.series.specs.Answer.{passing}
use Rattle.series.proofs.PlaceLaws.{unrefused}
use Rattle.sums.specs.Calls.{askable, between_of}
use Rattle.sums.proofs.PlaceLaws.{askable-placed, between_placed}
use Rattle.console.specs.Code.{refusal}
use Rattle.console.proofs.ToldPlaces.{told_refused}
use Rattle.summary.proofs.SummingLaws.{summing-stopped, summing, first_entry}
use Rattle.summary.proofs.dawhikura_sums_between.Goals as goal

pub returns-in-Err-clause-answer : goal.returns-in-Err-clause-answer
returns-in-Err-clause-answer c =
    let a = c.args in
    let h : askable (length a.samples.now) (length a.summary.now) a.first a.last passing ≡ refused (number c.in-Err.r) (place c.in-Err.r) = sym (c.in-Err.ensures).answer in
    let r : SFits w64 c.refusal-in-Err.result = record { sfits = c.refusal-in-Err.type_inv } in
    rw (summing-stopped a.samples.now a.summary.now a.first a.last a.sum.now h)
    (to_z-of_z r ∙ c.refusal-in-Err.ensures.answer
    ∙ ap (refusal (number c.in-Err.r)) (told_refused (askable-placed (length a.samples.now) (length a.summary.now) a.first a.last (λ W. unrefused)) h))

some : (out : List ℤ) {empty : Bool} → empty ≡ (length out == 0) → empty ≡ false → length out ≡ 0 → ⊥
some [] e f z = absurd (true≢false (sym e ∙ f))
some (x ∷ out) e f z = absurd (omega (arith, z))

pub returns-in-Ok-between-clause-sum : goal.returns-in-Ok-between-clause-sum
returns-in-Ok-between-clause-sum c =
    let a = c.args in
    let n = some a.sum.now c.is_empty.ensures c.if-is_empty.false in
    let f : SFits w64 c.in-Ok-between.t = search rules in
    let h : between_of a.samples.now a.summary.now a.first a.last ≡ given c.in-Ok-between.t = sym (c.in-Ok-between.ensures).answer in
    rw (summing a.samples.now a.summary.now a.first a.last a.sum.now n ∙ h, to_z-of_z {w = w64} f) (first_entry a.sum.now c.in-Ok-between.t n)

pub returns-in-Err-between-clause-answer : goal.returns-in-Err-between-clause-answer
returns-in-Err-between-clause-answer c =
    let a = c.args in
    let n = some a.sum.now c.is_empty.ensures c.if-is_empty.false in
    let h : between_of a.samples.now a.summary.now a.first a.last ≡ refused (number c.in-Err-between.r) (place c.in-Err-between.r) = sym (c.in-Err-between.ensures).answer in
    let r : SFits w64 c.refusal-in-Err-between.result = record { sfits = c.refusal-in-Err-between.type_inv } in
    rw (summing a.samples.now a.summary.now a.first a.last a.sum.now n ∙ h)
    (to_z-of_z r ∙ c.refusal-in-Err-between.ensures.answer ∙ ap (refusal (number c.in-Err-between.r)) (told_refused (between_placed a.samples.now a.summary.now a.first a.last) h))
