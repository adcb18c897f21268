-- `layout::lists::write_samples`: a sample more, until none is left.
use mathlib.Core.Path.{sym, ◌∙◌}
use borrow.Author.Rules.{rules}
use native.Mathlib.Omega.{arith}
use lib.ListN.{drop_of_length-le, get_or}
use lib.IntN.{pos}
use mir.Syntax.{w32}
use mir.Val.{SFits}
use mir.Facts.{to_z-of_z}
use Rattle.layout.specs.Format.{sample_bytes}
use Rattle.layout.proofs.AdjacentWrites.{overwrite-none, sample-more}
use Rattle.layout.proofs.lists.write_samples.Goals as goal

pub loop-i-preserved : goal.loop-i-preserved
loop-i-preserved c =
    let put = c.put_i32 in
    let loop = c.loop-i in
    let ys = c.args.samples.now in
    let f : SFits w32 (get_or ys loop.i (pos 0)) = search rules in (
      rw (put.ensures, to_z-of_z f) (sample-more loop.out c.args.at loop.i ys (omega arith) (omega arith) ∙ loop.invariant.0),
      put.auto.out ∙ loop.invariant.1,
    )

pub returns : goal.returns
unfolding sample_bytes
returns c =
    let loop = c.loop-i in
    sym (overwrite-none loop.out _) ∙ rw (drop_of_length-le c.args.samples.now {i = loop.i} (omega arith)) at loop.invariant.0
