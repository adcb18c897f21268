use Rattle.std.proofs.Common.{◌≡◌, ◌∙◌, ap, arith, pos, ◌+ℤ◌, w64, to_z, of_z, add-one}
use Rattle.integers.specs.Bounds.{Atmost, cleaning, fit, clean}
use Rattle.taut.proofs.InputLaws.{weight-light}
use Rattle.taut.proofs.input.Input.further.Goals as goal

pub overflow_add-result : goal.overflow_add-result
overflow_add-result c = let m = c.requires.at_small in let u = c.rises.ensures.upto in fit (search cleaning depth 12) tt

pub returns : goal.returns
returns c =
    let a = c.args.at in
    let m = c.requires.at_small in
    let u = c.rises.ensures.upto in
    let v : Atmost 65536 c.weight.result = record { atmost = omega (arith, c.weight.ensures, weight-light c.args.self a.k c.requires.short) } in
    let t : to_z w64 (of_z w64 (to_z w64 (of_z w64 a.total) +ℤ to_z w64 (of_z w64 c.rises.result))) ≡ a.total +ℤ c.rises.result = clean (search cleaning depth 12) tt in
    let n : to_z w64 (of_z w64 (to_z w64 (of_z w64 a.n) +ℤ to_z w64 c.weight.result)) ≡ a.n +ℤ pos c.weight.result = clean (search cleaning depth 12) tt in
    let k = add-one a.k in
    let t' = t ∙ ap (λ x. a.total +ℤ x) c.rises.ensures.answer in
    let n' = n ∙ ap (λ x. a.n +ℤ pos x) c.weight.ensures in
    λ i. record { total = t' i; n = n' i; k = k i }
