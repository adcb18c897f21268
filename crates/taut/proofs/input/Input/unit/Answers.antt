use Rattle.std.proofs.Common.{◌≡◌, ◌∙◌, ap, ap₂, Bool, true, false, ℤ, ℕ, pos, ◌+◌, ◌+ℤ◌, ◌-ℤ◌, cond, w64, to_z, of_z, add-one}
use Rattle.integers.specs.Bounds.{Atmost, Upto, cleaning, clean}
use Rattle.optimality.specs.Machine.{Increments}
use Rattle.optimality.specs.TautString.{off}
use Rattle.optimality.specs.TautString as TautString
use Rattle.taut.specs.Slopes.{side_of}
use Rattle.taut.specs.Tube.{data_of}
use Rattle.taut.proofs.TubeLaws.{width-upto}
use Rattle.taut.proofs.input.Input.unit.Goals as goal

-- what the machine makes of a rise y where half the width is v and L the smoothing
moved : (d : Increments) (low : Bool) (y v : ℤ) (L : ℕ) → Upto 2199023255552 y → Upto 1099511627776 v → Atmost 1099511627776 L →
    to_z w64 (of_z w64 (cond low (to_z w64 (of_z w64 y) -ℤ to_z w64 (of_z w64 (to_z w64 (of_z w64 v) -ℤ to_z w64 L))) (to_z w64 (of_z w64 y) +ℤ to_z w64 (of_z w64 (to_z w64 (of_z w64 v) -ℤ to_z w64 L)))))
    ≡ off d (side_of low) y (v -ℤ pos L)
moved d true y v L h k l = clean (search cleaning depth 20) tt
moved d false y v L h k l = clean (search cleaning depth 20) tt

pub returns : goal.returns
returns g c =
    let x = c.args.self in
    let low = g.S.Side.low in
    let t = moved (data_of x) low c.rises.result c.width.result x.smoothing c.rises.ensures.upto (width-upto x (c.args.e + 1) c.width.ensures) (record { atmost = x.ok.smoothing }) in
    let v = c.width.ensures ∙ ap (TautString.width (data_of x)) (add-one c.args.e) in
    let t' = ap (λ z. to_z w64 (of_z w64 z)) c.shift.ensures ∙ t ∙ ap₂ (λ y v. off (data_of x) (side_of low) y (v -ℤ pos x.smoothing)) c.rises.ensures.answer v in
    λ i. record { len = 1; n = c.weight.ensures i; total = t' i }
