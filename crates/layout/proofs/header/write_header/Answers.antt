-- `layout::header::write_header`: seven fields side by side.
use borrow.Author.Rules.{rules}
use Rattle.layout.specs.Format.{header}
use Rattle.layout.proofs.AdjacentWrites.{nothing, field}
use Rattle.layout.proofs.header.write_header.Goals as goal

pub returns : goal.returns
unfolding header
returns c =
    let s = c.args.out.now in
    let b1 = field s 4 _ (search rules) (nothing s) c.put_u32.ensures in
    let b2 = field s 4 _ (search rules) b1 c.put_u32-2.ensures in
    let b3 = field s 4 _ (search rules) b2 c.put_u32-3.ensures in
    let b4 = field s 4 _ (search rules) b3 c.put_u32-4.ensures in
    let b5 = field s 8 _ (search rules) b4 c.put_u64.ensures in
    let b6 = field s 4 _ (search rules) b5 c.put_u32-5.ensures in
    let b7 = field s 4 _ (search rules) b6 c.put_u32-6.ensures in
    b7.written
