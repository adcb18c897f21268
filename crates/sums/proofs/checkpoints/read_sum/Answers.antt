-- `sums::checkpoints::read_sum`: an entry and the samples after it add up, and the sum does not wrap.
use mathlib.Core.Path.{◌≡◌, ap, ap₂, ◌∙◌}
use native.Mathlib.Omega.{arith}
use lib.IntN.{◌+ℤ◌}
use mir.Syntax.{w64}
use mir.Val.{to_z, of_z}
use Rattle.integers.specs.Bounds.{Upto, cleaning, clean}
use Rattle.integers.specs.Sums.{sum_z}
use Rattle.sums.proofs.CheckpointLaws.{rest_part}
use Rattle.sums.proofs.checkpoints.read_sum.Goals as goal

pub returns-clause-answer : goal.returns-clause-answer
returns-clause-answer c =
    let x = c.checkpoint.result in
    let y = c.sum.result in
    let p : Upto 1099511627776 x = record { upto = rw c.checkpoint.ensures c.requires.entry_bound } in
    let q : Upto 549755813888 y = record { upto = c.sum.ensures.answer_bound } in
    let v : to_z w64 (of_z w64 (to_z w64 (of_z w64 x) +ℤ to_z w64 (of_z w64 y))) ≡ x +ℤ y = clean (search cleaning depth 12) tt in
    v ∙ ap₂ ◌+ℤ◌ c.checkpoint.ensures (c.sum.ensures.answer ∙ ap sum_z (rest_part c.args.samples.now c.args.n (omega arith)))
