-- `delay_csv::writing::record_size`: minute and delay have at most 20 characters each.
use mathlib.Core.Path.{◌≡◌, ap, ◌∙◌}
use native.Mathlib.Omega.{arith}
use lib.ListN.{length}
use Rattle.text.specs.Decimal.{signed_decimal}
use Rattle.text.specs.Laws.{length-decimal}
use Rattle.text.proofs.TextParts.{signed-room}
use Rattle.delay_csv.proofs.WriteLaws.{record-size, wide, widened}
use Rattle.delay_csv.proofs.writing.record_size.Goals as goal

characters : (c : goal.After-signed_width) → c.signed_width.result ≡ length (signed_decimal c.args.delay)
characters c = c.signed_width.ensures.answer ∙ ap (λ x. length (signed_decimal x)) (widened c.args.delay c.ranges.delay)

pub overflow_add-result : goal.overflow_add-result
overflow_add-result c =
    record { fits = omega (arith, c.width.ensures.answer, length-decimal 19 c.args.minute (omega arith), characters c, signed-room c.args.delay (wide c.args.delay c.ranges.delay)) }

pub overflow_add-result-2 : goal.overflow_add-result-2
overflow_add-result-2 c =
    record { fits = omega (arith, c.width.ensures.answer, length-decimal 19 c.args.minute (omega arith), characters c, signed-room c.args.delay (wide c.args.delay c.ranges.delay)) }

pub returns : goal.returns
returns c = omega (arith, record-size c.args.minute c.args.delay, c.width.ensures.answer, characters c)
