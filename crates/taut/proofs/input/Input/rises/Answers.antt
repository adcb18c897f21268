use Rattle.std.proofs.Common.{◌≡◌, ◌∙◌, ◌≤◌, ◌<◌, ℕ, suc, length, get_or, ℤ, pos, ◌*ℤ◌, ◌-ℤ◌, ap, sym, arith, w32, w64, to_z, of_z}
use lib.IntN.{+ℤ_idr}
use borrow.Author.Tests.{lt-ltb, le-ltb}
use Rattle.integers.specs.Bounds.{Atmost, Upto, cleaning, fit, clean}
use Rattle.optimality.specs.TautString.{rises}
use Rattle.taut.specs.Tube.{data_of}
use Rattle.taut.proofs.InputLaws.{weight-light}
use Rattle.taut.proofs.TubeLaws.{rises-upto}
use Rattle.taut.proofs.input.Input.rises.Goals as goal

-- the machine's product
abbrev term : ℕ → ℤ → ℤ
term w y = to_z w64 w *ℤ to_z w64 (of_z w64 (to_z w32 (of_z w32 y)))

product : (w : ℕ) (y : ℤ) → Atmost 65536 w → Upto 16777216 y → to_z w64 (of_z w64 (term w y)) ≡ pos w *ℤ y
product w y a h = clean (search cleaning depth 20) tt

less : (w : ℕ) (y b : ℤ) → Atmost 65536 w → Upto 16777216 y → Upto 1099511627776 b →
    to_z w64 (of_z w64 (to_z w64 (of_z w64 (term w y)) -ℤ to_z w64 (of_z w64 b))) ≡ pos w *ℤ y -ℤ b
less w y b a h l = clean (search cleaning depth 20) tt

pub overflow_mul-y : goal.overflow_mul-y
overflow_mul-y c =
    let x = c.args.self in
    let a : Atmost 65536 c.weight.result = record { atmost = omega (arith, c.weight.ensures, weight-light x c.args.j c.requires) } in
    let h = x.ok.samples c.args.j c.requires in
    fit (search cleaning depth 20) tt

pub overflow_sub-result : goal.overflow_sub-result
overflow_sub-result c =
    let x = c.args.self in
    let a : Atmost 65536 c.weight.result = record { atmost = omega (arith, c.weight.ensures, weight-light x c.args.j c.requires) } in
    let h = x.ok.samples c.args.j c.requires in
    let b : Upto 1099511627776 x.b = record { upto = omega (arith, x.ok.last.upto, x.ok.smoothing) } in
    fit (search cleaning depth 20) tt

pub returns-then-j-self : goal.returns-then-j-self
returns-then-j-self c =
    let x = c.args.self in
    let j = c.args.j in
    let a : Atmost 65536 c.weight.result = record { atmost = omega (arith, c.weight.ensures, weight-light x j c.requires) } in
    let further : suc j < length x.samples.now = omega arith in
    let e : _ ≡ rises (data_of x) j = rw (lt-ltb _ _ further)
    (product c.weight.result _ a (x.ok.samples j c.requires) ∙ ap (λ w. pos w *ℤ get_or x.samples.now j (pos 0)) c.weight.ensures ∙ sym (+ℤ_idr _)) in
    record { answer = e; upto = rises-upto x j e c.requires }

pub returns-else-j-self : goal.returns-else-j-self
returns-else-j-self c =
    let x = c.args.self in
    let j = c.args.j in
    let a : Atmost 65536 c.weight.result = record { atmost = omega (arith, c.weight.ensures, weight-light x j c.requires) } in
    let b : Upto 1099511627776 x.b = record { upto = omega (arith, x.ok.last.upto, x.ok.smoothing) } in
    let last : length x.samples.now ≤ suc j = omega arith in
    let e : _ ≡ rises (data_of x) j = rw (le-ltb _ _ last)
    (less c.weight.result _ x.b a (x.ok.samples j c.requires) b ∙ ap (λ w. pos w *ℤ get_or x.samples.now j (pos 0) -ℤ x.b) c.weight.ensures) in
    record { answer = e; upto = rises-upto x j e c.requires }
