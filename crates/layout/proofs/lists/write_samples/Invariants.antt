-- `layout::lists::write_samples`: to write what is left after i turns is to write all.
use mathlib.Core.Path.{◌≡◌}
use Prim.Native.Nat.{◌+◌, ◌*◌}
use lib.ListN.{length, drop}
use Rattle.codec.specs.Place.{overwrite}
use Rattle.layout.specs.Format.{sample_bytes}
use Rattle.layout.proofs.lists.write_samples.Given as goal

abbrev pub invariant-loop-i : goal.invariant-loop-i
invariant-loop-i l =
    (overwrite l.out (l.at + 4 * l.i) (sample_bytes (drop l.i l.samples)) ≡ overwrite l.initial.out l.at (sample_bytes l.samples))
    × (length l.out ≡ length l.initial.out)
