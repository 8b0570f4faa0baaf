-- The numbers of document 01, Numbers a call can answer with, for each of what a call can answer. Assumes nothing: these are
-- definitions.
use Rattle.std.specs.Prelude.{ℕ, Result, Ok, Err}
use Rattle.faults.specs.declared.Fault.{Fault}
use Rattle.faults.specs.declared.Fault.TheVariants.{Short, Version, Counts, Length, Masks, Parts, Ages, Improper, Letter, Span, Room, Unreadable}

-- the number of what is refused
abbrev pub number : Fault → ℕ
number Short = 1
number Version = 2
number Counts = 3
number Length = 4
number Masks = 5
number Parts = 6
number Ages = 7
number Improper = 8
number Letter = 9
number Span = 10
number Room = 11
number Unreadable = 12

-- 0 for what is accepted
abbrev pub number_of : {T : Type 0} → Result T Fault → ℕ
number_of (Ok x) = 0
number_of (Err f) = number f
