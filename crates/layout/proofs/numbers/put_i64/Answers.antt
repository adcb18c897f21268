-- `layout::numbers::put_i64`: std's word for the bytes is the definition's.
use Rattle.std.proofs.Common.{◌∙◌}
use mathlib.Core.Path.{ap}
use Rattle.codec.specs.Place.{overwrite}
use Rattle.codec.specs.LittleEndian.{encode, unsigned, put_signed, put_unsigned}
use Rattle.codec.proofs.MachineBytes.{to_8, bits-unsigned}
use mir.Syntax.{w64}
use mir.Facts.{to_z-of_z}
use Rattle.layout.proofs.numbers.put_i64.Goals as goal

pub returns : goal.returns
unfolding put_signed put_unsigned
returns c =
    let same = bits-unsigned w64 _ ∙ ap (unsigned 8) (to_z-of_z {w = w64} c.ranges.x) in
    c.overwrite.ensures ∙ ap (overwrite c.args.out.now c.args.at) (c.to_le_bytes.ensures ∙ to_8 _ ∙ ap (encode 8) same)
