-- `complete_sheet::put_signed_decimal`: the characters are those of the number.
use mir.Facts.{to_z-of_z}
use mir.Syntax.{w64}
use Rattle.text.specs.Decimal.{signed_decimal}
use Rattle.complete_sheet.proofs.OutputParts.{copied}
use Rattle.complete_sheet.proofs.put_signed_decimal.Goals as goal

pub returns-clause-out : goal.returns-clause-out
returns-clause-out c =
    let f = to_z-of_z {w = w64} c.ranges.x in
    let e = c.signed_decimal-k.ensures in
    copied c.args.out.now c.args.at (signed_decimal c.args.x) _ c.signed_decimal-k.new.out c.signed_decimal-k.result c.put_bytes.new.out (rw f at e.count) (rw f at e.out) c.put_bytes.ensures.out
