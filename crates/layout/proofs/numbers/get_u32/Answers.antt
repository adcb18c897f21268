-- `layout::numbers::get_u32`: std's word for the bytes is the definition's.
use Rattle.std.proofs.Common.{◌∙◌, length}
use mathlib.Core.Path.{◌≡◌, ap}
use Rattle.codec.specs.LittleEndian.{decode, get_unsigned}
use Rattle.codec.specs.PlaceLaws.{length_bytes_at}
use Rattle.codec.proofs.MachineBytes.{from_4}
use Rattle.layout.proofs.numbers.get_u32.Goals as goal

pub returns : goal.returns
unfolding get_unsigned
returns c =
    let e = c.bytes_at.ensures in
    let n : length c.bytes_at.result ≡ 4 = ap length e ∙ length_bytes_at c.args.sheet.now c.args.at 4 c.requires in
    c.from_le_bytes.ensures ∙ from_4 c.bytes_at.result n ∙ ap decode e
