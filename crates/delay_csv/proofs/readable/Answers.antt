-- `delay_csv::readable`: its tests are the definition's, by what the walk and the count tell of all records.
use borrow.Author.Tests.{eq-eqb, ne_eqb, lt-ltb, le-ltb}
use mathlib.Core.Path.{◌≡◌, ap, ◌∙◌}
use mathlib.Core.Bool.{false}
use mathlib.Core.List.{List}
use native.Mathlib.Numerals.{add-one}
use native.Mathlib.Omega.{arith}
use Prim.Native.Nat.{ℕ, ◌+◌, ◌≤◌}
use lib.Dec.{eqb, ltb}
use lib.ListN.{length, drop}
use Rattle.std.specs.Prelude as Std
use Rattle.delay_csv.specs.Records.{records, rows}
use Rattle.delay_csv.specs.Walk.{Walks}
use Rattle.delay_csv.proofs.RecordLaws.{records-most}
use Rattle.delay_csv.proofs.PassLaws.{length-numbered}
use Rattle.delay_csv.proofs.ReadLaws.{walk-count, walk_wrong, walk_kept, walk-beyond}
use Rattle.delay_csv.proofs.readable.Goals as goal

-- how many records there are
all : (text : List ℕ) (k at : ℕ) (far : Std.Option ℕ) (n : ℕ) → Walks text k at far → n ≡ length (records (drop at text)) → k + n ≡ length (rows text)
all text k at far n w e = ap (λ j. k + j) e ∙ walk-count text k at far w

some : (n minutes : ℕ) → minutes ≡ n → (minutes ≡ 0 → ⊥) → eqb n 0 ≡ false
some n minutes e f = ne_eqb n 0 (λ z. f (omega arith))

few : (n minutes : ℕ) → minutes ≡ n → minutes ≤ 65536 → ltb 65536 n ≡ false
few n minutes e h = le-ltb 65536 n (omega arith)

pub overflow_add-minutes : goal.overflow_add-minutes
overflow_add-minutes c =
    let text = c.args.text.now in
    record { fits = omega (arith, all text _ _ _ _ c.walk-w.ensures.answer c.count.ensures, length-numbered 1 (records text), records-most text) }

pub returns-then-minutes-eq0 : goal.returns-then-minutes-eq0
returns-then-minutes-eq0 c =
    let a = all c.args.text.now _ _ _ _ c.walk-w.ensures.answer c.count.ensures in
    rw (eq-eqb (length (rows c.args.text.now)) 0 (omega (arith, a)))

pub returns-then-minutes-gt-MINUTES : goal.returns-then-minutes-gt-MINUTES
returns-then-minutes-gt-MINUTES c =
    let n = length (rows c.args.text.now) in
    let a = all c.args.text.now _ _ _ _ c.walk-w.ensures.answer c.count.ensures in
    rw (some n _ a c.if-minutes-eq0.false, lt-ltb 65536 n (omega (arith, a)))

pub returns-then-w-text : goal.returns-then-w-text
returns-then-w-text c =
    let text = c.args.text.now in
    let n = length (rows text) in
    let w = c.walk-w in
    let a = all text _ _ _ _ w.ensures.answer c.count.ensures in
    rw (some n _ a c.if-minutes-eq0.false, few n _ a (omega arith), walk_wrong text _ _ _ w.ensures.answer c.if-w-text.true (omega (arith, a)) w.ensures.stops, add-one w.result.minutes)

pub returns-in-Some : goal.returns-in-Some
returns-in-Some c =
    let text = c.args.text.now in
    let n = length (rows text) in
    let w = c.walk-w in
    let a = all text _ _ _ _ w.ensures.answer c.count.ensures in
    rw (some n _ a c.if-minutes-eq0.false, few n _ a (omega arith), walk_kept text _ _ _ w.ensures.answer c.if-w-text.false, walk-beyond text _ _ _ w.ensures.answer c.if-w-text.false, c.in-Some.is)

pub returns-then-entries-minutes : goal.returns-then-entries-minutes
returns-then-entries-minutes c =
    let text = c.args.text.now in
    let n = length (rows text) in
    let w = c.walk-w in
    let a = all text _ _ _ _ w.ensures.answer c.count.ensures in
    rw (some n _ a c.if-minutes-eq0.false, few n _ a (omega arith), walk_kept text _ _ _ w.ensures.answer c.if-w-text.false, walk-beyond text _ _ _ w.ensures.answer c.if-w-text.false, c.in_default.is, lt-ltb c.args.entries n (omega (arith, a)))

pub returns : goal.returns
returns c =
    let text = c.args.text.now in
    let n = length (rows text) in
    let w = c.walk-w in
    let a = all text _ _ _ _ w.ensures.answer c.count.ensures in
    rw (some n _ a c.if-minutes-eq0.false, few n _ a (omega arith), walk_kept text _ _ _ w.ensures.answer c.if-w-text.false, walk-beyond text _ _ _ w.ensures.answer c.if-w-text.false, c.in_default.is, le-ltb c.args.entries n (omega (arith, a)), a)
