-- `complete_sheet::put_rows`: a row more, and all of them.
use mir.Facts.{to_z-of_z}
use mir.Syntax.{w64}
use mir.Val.{SFits, to_z, of_z}
use native.Mathlib.Omega.{arith}
use Rattle.std.proofs.Common.{rules, pos, get_or, ◌≤◌}
use Rattle.complete_sheet.specs.Report.{row}
use Rattle.complete_sheet.proofs.OutputParts.{Put}
use Rattle.complete_sheet.proofs.RowLoop.{nothing, one_more, whole}
use Rattle.complete_sheet.proofs.put_rows.Goals as goal

pub loop-k-init : goal.loop-k-init
loop-k-init c = nothing _ _ _ _

pub loop-k-preserved : goal.loop-k-preserved
loop-k-preserved c =
    let ns = c.args.lengths.now in
    let ts = c.args.totals.now in
    let k = c.loop-k.k in
    let small : get_or ns k 0 ≤ 4294967295 = search rules in
    let f : SFits w64 (get_or ts k (pos 0)) = search rules in
    let e = c.put_row-next.ensures in
    let p : Put c.loop-k.out c.loop-k.next 63 (row c.loop-k.first (get_or ns k 0) (to_z w64 (of_z w64 (get_or ts k (pos 0))))) c.put_row-next.result c.put_row-next.new.out =
    record { place = e.answer; most = e.most; bytes = e.out } in
    one_more _ _ ns ts c.requires.same_length c.loop-k.invariant c.requires.out_room c.loop-k-test.true small (rw (to_z-of_z {w = w64} f) at p)

pub returns-clause-answer : goal.returns-clause-answer
returns-clause-answer c = (whole _ _ _ _ c.requires.same_length c.loop-k.invariant (omega (arith, c.loop-k-test.false))).0

pub returns-clause-out : goal.returns-clause-out
returns-clause-out c = (whole _ _ _ _ c.requires.same_length c.loop-k.invariant (omega (arith, c.loop-k-test.false))).1.1
