-- `denoise::tracing::segment_at`: a length fits 32 bits, so that it is itself as an i64.
use mathlib.Core.Path.{◌≡◌}
use native.Mathlib.Omega.{arith}
use lib.ListN.{get_or}
use lib.IntN.{pos}
use mir.Syntax.{w64}
use mir.Val.{SFits, to_z}
use mir.Facts.{to_z-of_z}
use Rattle.std.proofs.Common.{rules}
use Rattle.integers.specs.Bounds.{Atmost, cleaning, clean}
use Rattle.denoise.proofs.tracing.segment_at.Goals as goal

pub returns : goal.returns
returns c =
    let len = get_or c.args.lengths.now c.args.j 0 in
    let total = get_or c.args.totals.now c.args.j (pos 0) in
    let small : Atmost 4294967295 len = record { atmost = omega (arith, c.type_inv.lengths c.args.j) } in
    let n : to_z w64 len ≡ pos len = clean (search cleaning) tt in
    let f : SFits w64 total = search rules in
    λ i. record { len = len; n = n i; total = to_z-of_z f i }
