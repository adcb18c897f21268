-- `layout::lists::read_segments`: a segment more.
use mathlib.Core.Path.{refl, ◌∙◌}
use Prim.Native.Nat.{◌+◌, ◌*◌}
use borrow.Author.Rules.{sfits_of}
use native.Mathlib.Omega.{arith}
use mir.Syntax.{w64}
use mir.Facts.{to_z-of_z}
use Rattle.layout.specs.Format.{records, read_length, read_total}
use Rattle.layout.specs.ListLaws.{length_at, total-at}
use Rattle.layout.proofs.ListLoop.{filled_more}
use Rattle.layout.proofs.lists.read_segments.Goals as goal

pub loop-i-init : goal.loop-i-init
unfolding records
loop-i-init c = ((refl, refl), (refl, refl))

pub loop-i-preserved : goal.loop-i-preserved
loop-i-preserved c =
    let loop = c.loop-i in
    let args = c.args in
    let s = args.sheet.now in
    let length = c.get_u32.ensures ∙ length_at s (args.at + 12 * loop.i) in
    let total = to_z-of_z {w = w64} (sfits_of c.get_i64.type_inv) ∙ c.get_i64.ensures ∙ total-at s (args.at + 12 * loop.i) in (
      filled_more args.lengths.now 12 read_length s args.at loop.i loop.lengths _ (omega arith) length loop.invariant.0,
      filled_more args.totals.now 12 read_total s args.at loop.i loop.totals _ (omega arith) total loop.invariant.1,
    )
