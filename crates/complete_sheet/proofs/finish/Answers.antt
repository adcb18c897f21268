-- `complete_sheet::finish`: the first entries of the two lists are the line.
use lib.Seq.{length-take-le}
use native.Mathlib.Omega.{arith}
use Rattle.sheet.proofs.AcceptedLists.{line-few}
use Rattle.complete_sheet.proofs.finish.Goals as goal

pub put_line-requires-clause-lengths_few : goal.put_line-requires-clause-lengths_few
put_line-requires-clause-lengths_few c =
    let h = c.draw-m.ensures in
    let a = length-take-le c.draw-m.result c.draw-m.new.lengths h.lengths_room in
    let k = line-few c.args.samples.now c.args.f.smoothing c.requires.ready.limited.some in
    omega (arith, a, h.count, k, c.requires.samples_few)
