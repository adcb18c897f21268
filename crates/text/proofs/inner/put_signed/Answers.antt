-- `text::inner::put_signed`: by the sign of x, '-' and then its digits, or its digits alone.
use mathlib.Core.Path.{ap}
use mathlib.Core.List.{[], ◌∷◌}
use Prim.Native.Nat.{◌+◌}
use native.Mathlib.Omega.{arith}
use lib.ListN.{length, length-set}
use Rattle.text.specs.Decimal.{decimal}
use Rattle.text.proofs.TextParts.{put_character, put_then, negative-text, natural-text}
use Rattle.text.proofs.inner.put_signed.Goals as goal

pub bounds-out-at : goal.bounds-out-at
bounds-out-at c = omega (arith, ap length (negative-text c.ranges.x c.unsigned_abs-size.ensures.value c.if-x-lt0.true))

pub put_digits-requires : goal.put_digits-requires
put_digits-requires c = simp length-set (omega (arith, ap length (negative-text c.ranges.x c.unsigned_abs-size.ensures.value c.if-x-lt0.true)))

pub returns-then-x-lt0-clause-answer : goal.returns-then-x-lt0-clause-answer
returns-then-x-lt0-clause-answer c = omega (arith, c.put_digits.ensures.answer, ap length (negative-text c.ranges.x c.unsigned_abs-size.ensures.value c.if-x-lt0.true))

pub returns-then-x-lt0-clause-out : goal.returns-then-x-lt0-clause-out
returns-then-x-lt0-clause-out c =
    let s = c.args.out.now in
    let at = c.args.at in
    let size = c.unsigned_abs-size.result in
    let d = c.put_digits in
    let text = negative-text c.ranges.x c.unsigned_abs-size.ensures.value c.if-x-lt0.true in
    let first = put_character s at 45 (omega (arith, ap length text)) in
    let both = put_then s at (45 ∷ []) (decimal size) (at + 1) d.result _ d.new.out first (d.ensures.answer, d.ensures.out) (omega (arith, ap length text)) in
    rw text both.1

pub put_digits-requires-2 : goal.put_digits-requires-2
put_digits-requires-2 c = omega (arith, ap length (natural-text c.ranges.x c.unsigned_abs-size.ensures.value c.if-x-lt0.false))

pub returns-clause-answer : goal.returns-clause-answer
returns-clause-answer c = omega (arith, c.put_digits-2.ensures.answer, ap length (natural-text c.ranges.x c.unsigned_abs-size.ensures.value c.if-x-lt0.false))

pub returns-clause-out : goal.returns-clause-out
returns-clause-out c = rw (natural-text c.ranges.x c.unsigned_abs-size.ensures.value c.if-x-lt0.false) c.put_digits-2.ensures.out
