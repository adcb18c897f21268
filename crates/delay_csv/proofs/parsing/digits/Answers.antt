-- `delay_csv::parsing::digits`: a digit more, or the end of the digits.
use mathlib.Core.Path.{◌≡◌, refl, sym, ap, ◌∙◌}
use native.Mathlib.Numerals.{add-one}
use native.Mathlib.Omega.{arith}
use Prim.Native.Nat.{◌+◌, ◌-◌, ◌*◌, suc}
use lib.ListN.{length, drop, get_or}
use Rattle.delay_csv.specs.Parsing.{digits_at, capped}
use Rattle.delay_csv.proofs.DigitLaws.{digits-on, digits-stop, digits-past, digits-all, grow_on, grow-capped}
use Rattle.delay_csv.proofs.parsing.digits.Goals as goal

pub loop-k-init : goal.loop-k-init
loop-k-init c = (grow-capped 0 (digits_at (drop c.args.at c.args.text.now)) (digits-all _), refl, omega arith)

-- another byte than a digit
pub returns-then-not-is_ascii_digit-clause-value : goal.returns-then-not-is_ascii_digit-clause-value
unfolding grow_on
returns-then-not-is_ascii_digit-clause-value c =
    let stop = digits-stop c.args.text.now c.loop-k.k c.loop-k-test.true (sym c.is_ascii_digit.ensures.value ∙ c.if-not-is_ascii_digit.true) in
    rw stop at c.loop-k.invariant.0

pub returns-then-not-is_ascii_digit-clause-next : goal.returns-then-not-is_ascii_digit-clause-next
returns-then-not-is_ascii_digit-clause-next c =
    let stop = digits-stop c.args.text.now c.loop-k.k c.loop-k-test.true (sym c.is_ascii_digit.ensures.value ∙ c.if-not-is_ascii_digit.true) in
    omega (arith, ap length stop, c.loop-k.invariant.1)

pub grown-value-requires-clause-value_bound : goal.grown-value-requires-clause-value_bound
grown-value-requires-clause-value_bound c = c.loop-k.invariant.2

pub loop-k-preserved : goal.loop-k-preserved
unfolding grow_on
loop-k-preserved c =
    let text = c.args.text.now in
    let k = c.loop-k.k in
    let on = digits-on text k c.loop-k-test.true (sym c.is_ascii_digit.ensures.value ∙ c.if-not-is_ascii_digit.false) in
    let v : c.grown-value.result ≡ capped (10 * c.loop-k.value + (get_or text k 0 - 48)) = c.grown-value.ensures in
    rw (add-one k) (ap (λ v. grow_on v (digits_at (drop (suc k) text))) v ∙ (rw on at c.loop-k.invariant.0), omega (arith, ap length on, c.loop-k.invariant.1), omega (arith, v))

-- no byte is left
pub returns-clause-value : goal.returns-clause-value
unfolding grow_on
returns-clause-value c = rw (digits-past c.args.text.now c.loop-k.k (omega arith)) at c.loop-k.invariant.0

pub returns-clause-next : goal.returns-clause-next
returns-clause-next c =
    let past = digits-past c.args.text.now c.loop-k.k (omega arith) in
    omega (arith, ap length past, c.loop-k.invariant.1)
