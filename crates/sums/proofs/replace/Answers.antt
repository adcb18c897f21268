-- `sums::replace`: what it moves, and that the entries stay the checkpoints of the series.
use mathlib.Core.Path.{◌≡◌, refl, sym, ap₂, subst}
use mathlib.Core.List.{List}
use native.Mathlib.Omega.{arith}
use mir.Facts.{to_z-of_z}
use mir.Syntax.{w32, w64}
use mir.Val.{to_z, of_z}
use Prim.Native.Nat.{◌-◌, ◌/◌}
use lib.IntN.{ℤ, ◌-ℤ◌}
use lib.ListN.{length, set}
use Rattle.std.proofs.lemmas.Grind.{common_steps}
use Rattle.integers.specs.Bounds.{Upto, cleaning, clean}
use Rattle.level.specs.Answer.{refused, given}
use Rattle.level.specs.Refusal.{number, place}
use Rattle.series.proofs.Refusals.{pass, stopped}
use Rattle.sums.specs.Checkpoints.{sample, Kept}
use Rattle.sums.specs.Calls.{uncounting, replace_of, replaced_samples}
use Rattle.sums.proofs.AskLaws.{replaceable-given, replaceable-passed, replaceable-alike}
use Rattle.sums.proofs.KeptLaws.{replaced}
use Rattle.sums.proofs.replace.Goals as goal

pub returns-in_err-replaceable-clause-answer : goal.returns-in_err-replaceable-clause-answer
returns-in_err-replaceable-clause-answer c = grind (arith, common_steps, to_z-of_z c.ranges.sample)

pub returns-in_err-replaceable-clause-samples : goal.returns-in_err-replaceable-clause-samples
returns-in_err-replaceable-clause-samples c =
    let a = c.args in
    let told = rw (to_z-of_z c.ranges.sample) at c.in_err-replaceable.ensures in
    let r = c.in_err-replaceable.field-0.0 in
    let e : replace_of a.samples.now a.entries.now a.minute a.sample ≡ refused (number r) (place r) = stopped (replaceable-alike a.samples.now a.entries.now a.minute a.sample pass) (sym told) in
    rw e refl

pub returns-in_err-replaceable-clause-entries : goal.returns-in_err-replaceable-clause-entries
returns-in_err-replaceable-clause-entries c =
    let a = c.args in
    let told = rw (to_z-of_z c.ranges.sample) at c.in_err-replaceable.ensures in
    let r = c.in_err-replaceable.field-0.0 in
    let e : replace_of a.samples.now a.entries.now a.minute a.sample ≡ refused (number r) (place r) = stopped (replaceable-alike a.samples.now a.entries.now a.minute a.sample pass) (sym told) in
    rw e refl

-- the difference of the new sample and the old one, as it is computed
by-is : (y z : ℤ) → Upto 16777216 y → Upto 16777216 z → to_z w64 (of_z w64 (to_z w64 (of_z w64 (to_z w32 (of_z w32 y))) -ℤ to_z w64 (of_z w64 (to_z w32 (of_z w32 z))))) ≡ y -ℤ z
by-is y z p q = clean (search cleaning depth 12) tt

pub returns-clause-entries : goal.returns-clause-entries
returns-clause-entries c =
    let a = c.args in
    let told = rw (to_z-of_z c.ranges.sample) at c.in_ok-replaceable.ensures in
    let R = (replaceable-given a.samples.now a.entries.now a.minute a.sample (sym told)).0 in
    let e : replace_of a.samples.now a.entries.now a.minute a.sample ≡ given (length a.samples.now / 256 - uncounting a.minute) = replaceable-passed a.samples.now a.entries.now a.minute a.sample _ R in
    let d = by-is a.sample (sample a.samples.now a.minute) record { upto = R.small } record { upto = R.small_old } in
    rw (e, sym d, sym c.uncounting-from.ensures) c.shift.ensures

same_kept : {ys ys' cs cs' : List ℤ} → ys ≡ ys' → cs ≡ cs' → Kept ys cs → Kept ys' cs'
same_kept p q K = subst (λ (l : List ℤ × List ℤ). Kept l.0 l.1) (ap₂ (λ a b. (a, b)) p q) K

pub returns-clause-kept : goal.returns-clause-kept
returns-clause-kept c K =
    let a = c.args in
    let told = rw (to_z-of_z c.ranges.sample) at c.in_ok-replaceable.ensures in
    let R = (replaceable-given a.samples.now a.entries.now a.minute a.sample (sym told)).0 in
    let e : replace_of a.samples.now a.entries.now a.minute a.sample ≡ given (length a.samples.now / 256 - uncounting a.minute) = replaceable-passed a.samples.now a.entries.now a.minute a.sample _ R in
    let p : set a.samples.now (a.minute - 1) (to_z w32 (of_z w32 a.sample)) ≡ replaced_samples a.samples.now a.entries.now a.minute a.sample = rw (e, to_z-of_z c.ranges.sample) in
    same_kept (sym p) (sym (returns-clause-entries c)) (replaced a.samples.now a.entries.now a.minute a.sample K)
