-- `layout::inner::encode`: header, samples and segments side by side from byte 0 on.
use Prim.Native.Nat.{◌*◌}
use native.Mathlib.Omega.{arith}
use lib.ListN.{length}
use Rattle.layout.specs.Format.{header, sample_bytes, segment_bytes, sheet_bytes}
use Rattle.layout.specs.ListLaws.{length-sample_bytes, length-segment_bytes}
use Rattle.layout.specs.SheetLaws.{length-header}
use Rattle.layout.proofs.AdjacentWrites.{nothing, part, whole}
use Rattle.layout.proofs.inner.encode.Goals as goal

pub returns : goal.returns
unfolding sheet_bytes
returns c =
    let s = c.args.out.now in
    let ys = c.args.samples.now in
    let ns = c.args.lengths.now in
    let ts = c.args.totals.now in
    let b1 = part s 32 (header (length ys) (length ns) c.args.smoothing) (length-header _ _ _) (omega arith) (nothing s) c.write_header.ensures in
    let b2 = part s (4 * length ys) (sample_bytes ys) (length-sample_bytes ys) (omega arith) b1 c.write_samples.ensures in
    let b3 = part s (12 * length ns) (segment_bytes ns ts) (length-segment_bytes ns ts c.requires.same_length) (omega arith) b2 c.write_segments.ensures in
    whole s b3
