-- `layout::numbers::get_i32`: std's word for the bytes is the definition's.
use Rattle.std.proofs.Common.{rules, ◌∙◌, length}
use mathlib.Core.Path.{◌≡◌, ap}
use mir.Syntax.{w32}
use mir.Val.{to_z}
use mir.Facts.{to_z-of_z}
use Rattle.codec.specs.LittleEndian.{decode, get_signed, get_unsigned}
use Rattle.codec.specs.PlaceLaws.{length_bytes_at}
use Rattle.codec.specs.Laws.{get_below}
use Rattle.codec.proofs.MachineBytes.{from_4, reads-signed}
use Rattle.layout.proofs.numbers.get_i32.Goals as goal

pub returns : goal.returns
unfolding get_signed get_unsigned
returns c =
    let s = c.args.sheet.now in
    let at = c.args.at in
    let e = c.bytes_at.ensures in
    let n : length c.bytes_at.result ≡ 4 = ap length e ∙ length_bytes_at s at 4 c.requires in
    to_z-of_z {w = w32} (search rules)
    ∙ c.from_le_bytes.ensures
    ∙ ap (to_z w32) (from_4 c.bytes_at.result n ∙ ap decode e)
    ∙ reads-signed w32 (get_unsigned 4 s at) (get_below 4 s at c.requires (λ i. (c.type_inv.sheet i).fits))
