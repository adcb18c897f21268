-- `delay_csv::writing::size`: the bytes so far, and those of the records that are left, are all.
use mathlib.Core.Path.{◌≡◌}
use Prim.Native.Nat.{◌+◌}
use lib.ListN.{length}
use Rattle.delay_csv.specs.Format.{text_of}
use Rattle.delay_csv.proofs.WriteLaws.{text_after}
use Rattle.delay_csv.proofs.writing.size.Given as goal

abbrev pub invariant-loop-k : goal.invariant-loop-k
invariant-loop-k l = l.n + length (text_after l.samples l.k) ≡ length (text_of l.samples)
