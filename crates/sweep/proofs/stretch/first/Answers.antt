-- `sweep::stretch::first`: its sums are read back.
use Rattle.std.proofs.Common.{arith, ◌≡◌, get_or, pos, ◌+ℤ◌, ◌-ℤ◌, w32, w64, to_z, of_z}
use Rattle.integers.specs.Bounds.{Upto, Atmost, cleaning, clean}
use Rattle.optimality.proofs.SmallNumbers.{sample-small}
use Rattle.sweep.proofs.stretch.first.Goals as goal

pub returns : goal.returns
returns c =
    let W = c.args.series.limited in
    let L = c.args.series.smoothing in
    let u = c.args.o.u in
    let y = get_or c.args.series.samples.now c.args.o.i (pos 0) in
    let h : Upto 16777216 y = sample-small 16777216 _ W.samples _ c.requires.i_in_bounds in
    let d : Upto 1099511627776 u = record { upto = omega (arith, c.requires.dual_bound.upto, W.smooth) } in
    let l : Atmost 1099511627776 L = record { atmost = W.smooth } in
    let sum : to_z w64 (of_z w64 (to_z w64 (of_z w64 u) +ℤ to_z w64 (of_z w64 (to_z w32 (of_z w32 y))))) ≡ u +ℤ y = clean (search cleaning depth 12) tt in
    let low : to_z w64 (of_z w64 (to_z w64 (of_z w64 (to_z w64 (of_z w64 u) +ℤ to_z w64 (of_z w64 (to_z w32 (of_z w32 y))))) -ℤ to_z w64 L)) ≡ u +ℤ y -ℤ pos L = clean (search cleaning depth 20) tt in
    let high : to_z w64 (of_z w64 (to_z w64 (of_z w64 (to_z w64 (of_z w64 u) +ℤ to_z w64 (of_z w64 (to_z w32 (of_z w32 y))))) +ℤ to_z w64 L)) ≡ u +ℤ y +ℤ pos L = clean (search cleaning depth 20) tt in
    λ i. record {
      total = sum i;
      n = 1;
      min = record { total = low i; n = 1; times = low i };
      max = record { total = high i; n = 1; times = high i };
    }
