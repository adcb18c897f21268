-- `delay_csv::writing::put`: to write the records that are left is to write all.
use mathlib.Core.Path.{◌≡◌}
use Prim.Native.Nat.{◌+◌}
use lib.ListN.{length}
use Rattle.codec.specs.Place.{overwrite}
use Rattle.delay_csv.specs.Format.{text_of}
use Rattle.delay_csv.proofs.WriteLaws.{text_after}
use Rattle.delay_csv.proofs.writing.put.Given as goal

abbrev pub invariant-loop-k : goal.invariant-loop-k
invariant-loop-k l =
    (overwrite l.out l.at (text_after l.samples l.k) ≡ overwrite l.initial.out 0 (text_of l.samples))
    × (l.at + length (text_after l.samples l.k) ≡ length (text_of l.samples))
    × (length l.out ≡ length l.initial.out)
