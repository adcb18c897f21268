-- `text::inner::signed_width`: by the sign of x, its digits and one more, or its digits alone.
use mathlib.Core.Path.{ap}
use native.Mathlib.Omega.{arith}
use lib.ListN.{length}
use Rattle.text.proofs.TextParts.{signed-room, negative-text, natural-text}
use Rattle.text.proofs.inner.signed_width.Goals as goal

pub overflow_add-result : goal.overflow_add-result
overflow_add-result c = record { fits = omega (arith, signed-room c.args.x c.ranges.x, ap length (negative-text c.ranges.x c.unsigned_abs.ensures.value c.if-x-lt0.true)) }

pub returns-then-x-lt0 : goal.returns-then-x-lt0
returns-then-x-lt0 c = record { answer = omega (arith, c.width-digits.ensures.answer, ap length (negative-text c.ranges.x c.unsigned_abs.ensures.value c.if-x-lt0.true)) }

pub returns-else-x-lt0 : goal.returns-else-x-lt0
returns-else-x-lt0 c = record { answer = omega (arith, c.width-digits.ensures.answer, ap length (natural-text c.ranges.x c.unsigned_abs.ensures.value c.if-x-lt0.false)) }
