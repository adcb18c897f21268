-- `delay_csv::writing::put`: a record more, until none is left.
use mathlib.Core.Path.{sym, ap, ap₂, ◌∙◌}
use native.Mathlib.Numerals.{add-one}
use native.Mathlib.Omega.{arith}
use Prim.Native.Nat.{suc, ◌+◌, ◌≤◌}
use lib.ListN.{length, get_or, length-append}
use lib.IntN.{pos}
use mir.Syntax.{w32}
use mir.Val.{SFits}
use Rattle.std.proofs.Common.{rules}
use Rattle.codec.specs.Place.{overwrite}
use Rattle.codec.specs.PlaceLaws.{overwrite_append, length-overwrite}
use Rattle.text.proofs.TextParts.{overwrite-none}
use Rattle.delay_csv.specs.Format.{record_text, text_of}
use Rattle.delay_csv.proofs.WriteLaws.{text_after, text-more, text-none, overwrite-start, handed-record}
use Rattle.delay_csv.proofs.writing.put.Goals as goal

pub put_record-at-requires : goal.put_record-at-requires
put_record-at-requires c =
    let ys = c.args.samples.now in
    let l = c.loop-k in
    let p = record_text (suc l.k) (get_or ys l.k (pos 0)) in
    let f : SFits w32 (get_or ys l.k (pos 0)) = search rules in
    let split = ap length (text-more ys l.k c.loop-k-test.true) ∙ length-append p (text_after ys (suc l.k)) in
    rw (handed-record l.k (get_or ys l.k (pos 0)) f) (omega (arith, split, l.invariant.1, l.invariant.2, c.requires.out_room))

pub loop-k-preserved : goal.loop-k-preserved
loop-k-preserved c =
    let ys = c.args.samples.now in
    let l = c.loop-k in
    let p = record_text (suc l.k) (get_or ys l.k (pos 0)) in
    let rest = text_after ys (suc l.k) in
    let f : SFits w32 (get_or ys l.k (pos 0)) = search rules in
    let split = ap length (text-more ys l.k c.loop-k-test.true) ∙ length-append p rest in
    let room : l.at + (length p + length rest) ≤ length l.out = omega (arith, split, l.invariant.1, l.invariant.2, c.requires.out_room) in
    let answer = rw (handed-record l.k (get_or ys l.k (pos 0)) f) at c.put_record-at.ensures.answer in
    let out = rw (handed-record l.k (get_or ys l.k (pos 0)) f) at c.put_record-at.ensures.out in
    rw (add-one l.k) (
      ap₂ (λ s n. overwrite s n rest) out answer
          ∙ overwrite_append l.out l.at p (omega (arith, room)) rest room
          ∙ ap (overwrite l.out l.at) (sym (text-more ys l.k c.loop-k-test.true))
          ∙ l.invariant.0,
      omega (arith, answer, split, l.invariant.1),
      ap length out ∙ length-overwrite l.out l.at p (omega (arith, room)) ∙ l.invariant.2,
    )

pub returns : goal.returns
returns c =
    let l = c.loop-k in
    let ys = c.args.samples.now in
    sym (overwrite-none l.out l.at)
    ∙ ap (overwrite l.out l.at) (sym (text-none ys l.k (omega arith)))
    ∙ l.invariant.0
    ∙ overwrite-start c.args.out.now (text_of ys)
