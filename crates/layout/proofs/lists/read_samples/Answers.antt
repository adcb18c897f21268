-- `layout::lists::read_samples`: a sample more.
use mathlib.Core.Path.{refl, ◌∙◌}
use borrow.Author.Rules.{sfits_of}
use native.Mathlib.Omega.{arith}
use mir.Syntax.{w32}
use mir.Facts.{to_z-of_z}
use Rattle.codec.specs.Place.{bytes_at}
use Rattle.codec.specs.LittleEndian.{get_unsigned, get_signed}
use Rattle.layout.specs.Format.{records, read_sample}
use Rattle.layout.proofs.ListLoop.{filled_more}
use Rattle.layout.proofs.lists.read_samples.Goals as goal

pub loop-i-init : goal.loop-i-init
unfolding records
loop-i-init c = (refl, refl)

pub loop-i-preserved : goal.loop-i-preserved
unfolding get_signed get_unsigned bytes_at
loop-i-preserved c =
    let loop = c.loop-i in
    let args = c.args in
    let read = to_z-of_z {w = w32} (sfits_of c.get_i32.type_inv) ∙ c.get_i32.ensures in
    filled_more args.out.now 4 read_sample args.sheet.now 32 loop.i loop.out _ (omega arith) read loop.invariant
