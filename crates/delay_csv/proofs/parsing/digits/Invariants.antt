-- `delay_csv::parsing::digits`: what was read so far, and then what is left, is all.
use mathlib.Core.Path.{◌≡◌}
use Prim.Native.Nat.{◌+◌, ◌≤◌}
use lib.ListN.{length, drop}
use Rattle.text.specs.Decimal.{read_on}
use Rattle.delay_csv.specs.Parsing.{digits_at, capped}
use Rattle.delay_csv.proofs.DigitLaws.{grow_on}
use Rattle.delay_csv.proofs.parsing.digits.Given as goal

abbrev pub invariant-loop-k : goal.invariant-loop-k
invariant-loop-k l =
    (grow_on l.value (digits_at (drop l.k l.text)) ≡ capped (read_on 0 (digits_at (drop l.at l.text))))
    × (l.k + length (digits_at (drop l.k l.text)) ≡ l.at + length (digits_at (drop l.at l.text)))
    × (l.value ≤ 16777217)
