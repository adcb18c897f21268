-- `text::decimal`: a u64 has at most 20 digits.
use native.Mathlib.Omega.{arith}
use Rattle.text.specs.Laws.{length-decimal}
use Rattle.text.proofs.decimal.Goals as goal

pub put_digits-requires : goal.put_digits-requires
put_digits-requires c = omega (arith, length-decimal 19 c.args.n (omega arith))

pub returns-clause-most : goal.returns-clause-most
returns-clause-most c = omega (arith, length-decimal 19 c.args.n (omega arith))

pub returns-clause-fits : goal.returns-clause-fits
returns-clause-fits c = omega (arith, c.put_digits.auto.out, length-decimal 19 c.args.n (omega arith))
