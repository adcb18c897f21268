-- `layout::lists::write_segments`: to write what is left after i turns is to write all.
use mathlib.Core.Path.{◌≡◌}
use Prim.Native.Nat.{◌+◌, ◌*◌}
use lib.ListN.{length, drop}
use Rattle.codec.specs.Place.{overwrite}
use Rattle.layout.specs.Format.{segment_bytes}
use Rattle.layout.proofs.lists.write_segments.Given as goal

abbrev pub invariant-loop-i : goal.invariant-loop-i
invariant-loop-i l =
    (overwrite l.out (l.at + 12 * l.i) (segment_bytes (drop l.i l.lengths) (drop l.i l.totals)) ≡ overwrite l.initial.out l.at (segment_bytes l.lengths l.totals))
    × (length l.out ≡ length l.initial.out)
