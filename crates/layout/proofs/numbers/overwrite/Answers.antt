-- `layout::numbers::overwrite`: a copy to a part of the slice.
use Rattle.layout.proofs.AdjacentWrites.{part-copied}
use Rattle.layout.proofs.numbers.overwrite.Goals as goal

pub returns : goal.returns
returns g c =
    let f = c.copy_from_slice.ensures in
    part-copied c.args.out.now c.args.bytes c.copy_from_slice.new.self c.args.at g.row.N c.requires f.after f.len
