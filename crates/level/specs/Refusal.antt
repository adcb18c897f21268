-- The number and the place of each refusal (RULES 4.3).
use Rattle.std.specs.Prelude.{ℕ, List, ◌∷◌, ◌++◌}
use Rattle.std.specs.Fmt.{decimal}
use Rattle.level.specs.declared.refusal.Refusal.{Refusal}

abbrev pub number : Refusal → ℕ
number Refusal.NoMinutes = 1
number Refusal.TooManyMinutes = 2
number (Refusal.SampleBeyond minute) = 3
number Refusal.SmoothingBeyond = 4
number Refusal.NoRoom = 5
number (Refusal.BadLength segment) = 6
number (Refusal.TotalBeyond at) = 7
number (Refusal.EqualLevels segment) = 8
number (Refusal.NotOptimal minute) = 9
number Refusal.NoHeader = 10
number Refusal.TooManySegments = 11
number (Refusal.BadField byte) = 12
number Refusal.NotInLine = 13
number Refusal.Closed = 14
number Refusal.FloorBeyond = 15
number Refusal.BadStretch = 16
number (Refusal.BadRecord entry) = 17
number Refusal.TooManySeries = 24

-- 0 where the table names none
abbrev pub place : Refusal → ℕ
place (Refusal.SampleBeyond minute) = minute
place (Refusal.BadLength segment) = segment
place (Refusal.TotalBeyond at) = at
place (Refusal.EqualLevels segment) = segment
place (Refusal.NotOptimal minute) = minute
place Refusal.TooManySegments = 4
place (Refusal.BadField byte) = byte
place (Refusal.BadRecord entry) = entry
place r = 0

-- "refused ", the number, a space and the place
abbrev pub refusal_text : Refusal → List ℕ
refusal_text r = 114 ∷ 101 ∷ 102 ∷ 117 ∷ 115 ∷ 101 ∷ 100 ∷ 32 ∷ (decimal (number r) ++ 32 ∷ decimal (place r))
