-- `layout::numbers::put_u32`: std's word for the bytes is the definition's.
use Rattle.std.proofs.Common.{◌∙◌}
use mathlib.Core.Path.{ap}
use Rattle.codec.specs.Place.{overwrite}
use Rattle.codec.specs.LittleEndian.{put_unsigned}
use Rattle.codec.proofs.MachineBytes.{to_4}
use Rattle.layout.proofs.numbers.put_u32.Goals as goal

pub returns : goal.returns
unfolding put_unsigned
returns c = c.overwrite.ensures ∙ ap (overwrite c.args.out.now c.args.at) (c.to_le_bytes.ensures ∙ to_4 c.args.x)
