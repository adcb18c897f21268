-- `layout::numbers::put_i32`: std's word for the bytes is the definition's.
use Rattle.std.proofs.Common.{◌∙◌}
use mathlib.Core.Path.{ap}
use Rattle.codec.specs.Place.{overwrite}
use Rattle.codec.specs.LittleEndian.{encode, unsigned, put_signed, put_unsigned}
use Rattle.codec.proofs.MachineBytes.{to_4, bits-unsigned}
use mir.Syntax.{w32}
use mir.Facts.{to_z-of_z}
use Rattle.layout.proofs.numbers.put_i32.Goals as goal

pub returns : goal.returns
unfolding put_signed put_unsigned
returns c =
    let same = bits-unsigned w32 _ ∙ ap (unsigned 4) (to_z-of_z {w = w32} c.ranges.x) in
    c.overwrite.ensures ∙ ap (overwrite c.args.out.now c.args.at) (c.to_le_bytes.ensures ∙ to_4 _ ∙ ap (encode 4) same)
