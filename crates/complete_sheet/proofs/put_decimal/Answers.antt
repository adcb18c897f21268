-- `complete_sheet::put_decimal`: the characters are those of the number.
use Rattle.text.specs.Decimal.{decimal}
use Rattle.complete_sheet.proofs.OutputParts.{copied}
use Rattle.complete_sheet.proofs.put_decimal.Goals as goal

pub returns-clause-out : goal.returns-clause-out
returns-clause-out c =
    let e = c.decimal-k.ensures in
    copied c.args.out.now c.args.at (decimal c.args.n) _ c.decimal-k.new.out c.decimal-k.result c.put_bytes.new.out e.count e.out c.put_bytes.ensures.out
