-- `layout::lists::write_segments`: a segment more, until none is left.
use mathlib.Core.Path.{sym, ◌∙◌}
use borrow.Author.Rules.{rules}
use native.Mathlib.Omega.{arith}
use lib.ListN.{drop_of_length-le, get_or}
use lib.IntN.{pos}
use mir.Syntax.{w64}
use mir.Val.{SFits}
use mir.Facts.{to_z-of_z}
use Rattle.layout.specs.Format.{segment_bytes}
use Rattle.layout.proofs.AdjacentWrites.{overwrite-none, segment-more}
use Rattle.layout.proofs.lists.write_segments.Goals as goal

pub loop-i-preserved : goal.loop-i-preserved
loop-i-preserved c =
    let loop = c.loop-i in
    let ns = c.args.lengths.now in
    let ts = c.args.totals.now in
    let f : SFits w64 (get_or ts loop.i (pos 0)) = search rules in (
      rw (c.put_i64.ensures, to_z-of_z f, c.put_u32.ensures)
          (segment-more loop.out c.args.at loop.i ns ts c.requires.same_length (omega arith) (omega arith) ∙ loop.invariant.0),
      c.put_i64.auto.out ∙ c.put_u32.auto.out ∙ loop.invariant.1,
    )

pub returns : goal.returns
unfolding segment_bytes
returns c =
    let loop = c.loop-i in
    sym (overwrite-none loop.out _) ∙ rw (drop_of_length-le c.args.lengths.now {i = loop.i} (omega arith)) at loop.invariant.0
