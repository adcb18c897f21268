-- `denoise::tracing::minute`: the numbers fit.
use mathlib.Core.Path.{◌≡◌}
use lib.IntN.{◌+ℤ◌, ◌*ℤ◌, ◌-ℤ◌}
use mir.Syntax.{w32, w64}
use mir.Val.{to_z, of_z}
use Rattle.integers.specs.Bounds.{cleaning, fit, clean}
use Rattle.denoise.proofs.tracing.minute.Goals as goal

pub overflow_sub-result : goal.overflow_sub-result
overflow_sub-result c = let p = c.requires.small_bound in let y = c.requires.sample_bound in fit (search cleaning depth 12) tt

pub overflow_add-result : goal.overflow_add-result
overflow_add-result c = let p = c.requires.small_bound in let d = c.requires.small_dual in let y = c.requires.sample_bound in fit (search cleaning depth 20) tt

pub returns : goal.returns
returns c =
    let p = c.args.p in
    let d = c.args.d in
    let y = c.args.y in
    let y' = to_z w64 (of_z w64 (to_z w32 (of_z w32 y))) in
    let P = c.requires.small_bound in
    let D = c.requires.small_dual in
    let Y = c.requires.sample_bound in
    let v : to_z w64 (of_z w64 (to_z w64 (of_z w64 d.v) +ℤ to_z w64 (of_z w64 (to_z w64 (of_z w64 (to_z w64 (of_z w64 p.n) *ℤ y')) -ℤ to_z w64 (of_z w64 p.total))))) ≡ d.v +ℤ (p.n *ℤ y -ℤ p.total) = clean (search cleaning depth 20) tt in
    let u : to_z w64 (of_z w64 (to_z w64 (of_z w64 d.u) +ℤ y')) ≡ d.u +ℤ y = clean (search cleaning depth 12) tt in
    λ i. record { v = v i; u = u i }
