-- `sums::between`: of kept entries the sum is exact.
use mathlib.Core.Path.{◌≡◌, sym, ap₂, ◌∙◌}
use mir.Syntax.{w64}
use mir.Val.{to_z, of_z}
use lib.IntN.{◌-ℤ◌}
use Rattle.integers.specs.Bounds.{Upto, cleaning, clean}
use Rattle.sums.proofs.AskLaws.{askable-given}
use Rattle.sums.proofs.KeptLaws.{read_between}
use Rattle.sums.proofs.between.Goals as goal

pub returns-clause-exact : goal.returns-clause-exact
returns-clause-exact c K =
    let a = c.args in
    let W = (askable-given _ _ a.first a.last (sym c.in_ok-askable.ensures.answer)).0 in
    let x = c.read_sum-total.result in
    let y = c.read_sum.result in
    let p : Upto 1649267441664 x = record { upto = c.read_sum-total.ensures.answer_bound } in
    let q : Upto 1649267441664 y = record { upto = c.read_sum.ensures.answer_bound } in
    let v : to_z w64 (of_z w64 (to_z w64 (of_z w64 x) -ℤ to_z w64 (of_z w64 y))) ≡ x -ℤ y = clean (search cleaning depth 12) tt in
    v ∙ ap₂ ◌-ℤ◌ c.read_sum-total.ensures.answer c.read_sum.ensures.answer ∙ read_between a.samples.now a.entries.now a.first a.last K W.ordered W.last_in
