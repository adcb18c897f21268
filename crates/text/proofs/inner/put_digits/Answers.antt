-- `text::inner::put_digits`: the kit's digits are the definition's, and end where they are asked to.
use mathlib.Core.Path.{ap}
use native.Mathlib.Omega.{arith}
use lib.ListN.{length}
use Rattle.text.proofs.TextParts.{std_decimal, put_whole}
use Rattle.text.specs.Decimal.{decimal}
use Rattle.text.proofs.inner.put_digits.Goals as goal

pub write_digits-requires : goal.write_digits-requires
write_digits-requires c =
    let e = ap length (std_decimal c.args.n c.ranges.n.fits) in
    (omega arith, omega arith)

pub returns-clause-out : goal.returns-clause-out
returns-clause-out c =
    let f = c.write_digits.ensures in
    let e = std_decimal c.args.n c.ranges.n.fits in
    let w = c.width.ensures.answer in
    put_whole c.args.out.now c.write_digits.new.buf (decimal c.args.n) c.args.at c.write_digits.result
    (omega (arith, ap length e)) (rw (e, w) at f.written) f.before
