-- `text::signed_decimal`: an i64 has at most 19 digits and a sign.
use native.Mathlib.Omega.{arith}
use mathlib.Core.Path.{◌≡◌, ap}
use lib.ListN.{length}
use mir.Syntax.{w64}
use mir.Val.{to_z, of_z}
use Rattle.text.specs.Decimal.{signed_decimal}
use mir.Facts.{to_z-of_z}
use Rattle.text.proofs.TextParts.{signed-room}
use Rattle.text.proofs.signed_decimal.Goals as goal

same : (c : goal.After-put_signed) → signed_decimal (to_z w64 (of_z w64 c.args.x)) ≡ signed_decimal c.args.x
same c = ap signed_decimal (to_z-of_z c.ranges.x)

pub put_signed-requires : goal.put_signed-requires
put_signed-requires c = rw (to_z-of_z c.ranges.x) (omega (arith, signed-room c.args.x c.ranges.x))

pub returns-clause-most : goal.returns-clause-most
returns-clause-most c = omega (arith, ap length (same c), signed-room c.args.x c.ranges.x)

pub returns-clause-fits : goal.returns-clause-fits
returns-clause-fits c = omega (arith, ap length (same c), c.put_signed.auto.out, signed-room c.args.x c.ranges.x)
