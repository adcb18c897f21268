-- `sweep::inner::left_off`: its difference is read back.
use Rattle.std.proofs.Common.{◌≡◌, ap, ◌-◌, get_or, pos, ◌-ℤ◌, w32, w64, to_z, of_z}
use Rattle.integers.specs.Bounds.{cleaning, clean}
use Rattle.sweep.proofs.inner.left_off.Goals as goal

pub returns : goal.returns
returns c =
    let i = c.args.r.k0 - 1 in
    let U = c.args.r.mean.total in
    let y = get_or c.args.samples.now i (pos 0) in
    let m = c.requires.total_bound in
    let h = c.requires.sample_bound in
    let at : to_z w64 (of_z w64 (to_z w64 (of_z w64 U) -ℤ to_z w64 (of_z w64 (to_z w32 (of_z w32 y))))) ≡ U -ℤ y = clean (search cleaning depth 12) tt in
    ap (λ u. record { segments = c.args.m; minutes = i; dual = u }) at
