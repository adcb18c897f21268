-- `sweep::stretch::longer`: its sum is read back.
use Rattle.std.proofs.Common.{◌≡◌, ◌+◌, ◌+ℤ◌, w32, w64, to_z, of_z}
use Rattle.integers.specs.Bounds.{cleaning, clean}
use Rattle.sweep.proofs.stretch.longer.Goals as goal

pub returns : goal.returns
returns c =
    let u = c.requires.c_near.total in
    let h = c.requires.sample_bound in
    let e = c.args.c in
    let sum : to_z w64 (of_z w64 (to_z w64 (of_z w64 e.total) +ℤ to_z w64 (of_z w64 (to_z w32 (of_z w32 c.args.y))))) ≡ e.total +ℤ c.args.y = clean (search cleaning depth 12) tt in
    λ i. record { total = sum i; n = e.n + 1; min = c.kept.ensures i; max = c.kept-2.ensures i }
