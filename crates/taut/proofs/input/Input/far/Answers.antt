use Rattle.std.proofs.Common.{◌≡◌, ◌∙◌, ap, Bool, true, false, not, cond, ℤ, pos, ◌+ℤ◌, ◌-ℤ◌, [], ◌∷◌, w64, to_z, of_z, refl}
use Rattle.integers.specs.Bounds.{Upto, cleaning, clean}
use Rattle.integers.specs.Ring.{ring, reify}
use Rattle.taut.proofs.TubeLaws.{width-upto}
use Rattle.taut.proofs.input.Input.far.Goals as goal

-- what the machine makes of a move by -w
turned : (low : Bool) (z w : ℤ) → Upto 3298534883328 z → Upto 1099511627776 w →
    to_z w64 (of_z w64 (cond low (to_z w64 (of_z w64 z) -ℤ to_z w64 (of_z w64 (pos 0 -ℤ to_z w64 (of_z w64 w)))) (to_z w64 (of_z w64 z) +ℤ to_z w64 (of_z w64 (pos 0 -ℤ to_z w64 (of_z w64 w))))))
    ≡ cond (not low) (z -ℤ w) (z +ℤ w)
turned true z w h k =
    let t : to_z w64 (of_z w64 (to_z w64 (of_z w64 z) -ℤ to_z w64 (of_z w64 (pos 0 -ℤ to_z w64 (of_z w64 w))))) ≡ z -ℤ (pos 0 -ℤ w) = clean (search cleaning depth 20) tt in
    t ∙ ring (z ∷ w ∷ []) (search reify depth 20) refl
turned false z w h k =
    let t : to_z w64 (of_z w64 (to_z w64 (of_z w64 z) +ℤ to_z w64 (of_z w64 (pos 0 -ℤ to_z w64 (of_z w64 w))))) ≡ z +ℤ (pos 0 -ℤ w) = clean (search cleaning depth 20) tt in
    t ∙ ring (z ∷ w ∷ []) (search reify depth 20) refl

pub returns : goal.returns
returns g c =
    let a = c.args.at in
    let low = g.S.Side.low in
    let t = ap (λ z. to_z w64 (of_z w64 z)) c.shift.ensures ∙ turned low a.total c.width.result c.requires.total (width-upto c.args.self a.k c.width.ensures)
    ∙ ap (λ w. cond (not low) (a.total -ℤ w) (a.total +ℤ w)) c.width.ensures in
    let d = c.requires.divisor in
    let n : to_z w64 (of_z w64 a.n) ≡ a.n = clean (search cleaning depth 12) tt in
    λ i. record { total = t i; n = n i; k = a.k }
