-- `complete_sheet::put_bytes`: the text stands at its place, and all else as it was.
use Rattle.layout.proofs.AdjacentWrites.{part-copied}
use Rattle.complete_sheet.proofs.put_bytes.Goals as goal

pub returns-clause-out : goal.returns-clause-out
returns-clause-out c =
    let f = c.copy_from_slice.ensures in
    part-copied c.args.out.now c.args.text.now c.copy_from_slice.new.self c.args.at _ c.requires f.after f.len
