-- The two sets that the watch carries, age by age: a pair, sure and possible, for each age 0 to H, and one for all ages
-- above H, kept at the age H + 1 (document 01, Configurations and steps; The record). Assumes nothing: these are definitions.
use Rattle.std.specs.Prelude.{ℕ, zero, suc}
use Rattle.std.specs.Int.Bits.{bit_or}
use Rattle.meaning.specs.Tables.{Table}
use Rattle.meaning.specs.Runs.{Symbol}
use Rattle.meaning.specs.Ages.{step_at, initial_at, nothing_at, everything_at}
use Rattle.record.specs.declared.Pair.{Pair}

-- the pair of each age
abbrev pub Pairs : Type 0
Pairs = ℕ → Pair

-- the pair of two empty sets
abbrev pub no_pair : Pair
no_pair = record { sure = 0; possible = 0 }

-- two pairs as one: the sure sets together, and the possible ones
abbrev pub both : Pair → Pair → Pair
both p q = record { sure = bit_or p.sure q.sure; possible = bit_or p.possible q.possible }

-- f 0 to f (n - 1) as one
unfoldable pub together : ℕ → (ℕ → Pair) → Pair
together zero f = no_pair
together (suc n) f = both (together n f) (f n)

-- the sure set alone, by age, and the possible one
abbrev pub sures : Pairs → ℕ → ℕ
sures f k = (f k).sure

abbrev pub possibles : Pairs → ℕ → ℕ
possibles f k = (f k).possible

-- "At the start both are the initial states at age 0."
unfoldable pub start_pairs : Table → Pairs
start_pairs T k = record { sure = initial_at T k; possible = initial_at T k }

-- "a gap makes the sure set empty and the possible set all n states at every age"
unfoldable pub gap_pairs : Table → Pairs
gap_pairs T k = record { sure = nothing_at k; possible = everything_at T k }

-- "Letters and spans step both."
unfoldable pub step_pairs : Table → Symbol → Pairs → Pairs
step_pairs T x f k = record { sure = step_at T x (sures f) k; possible = step_at T x (possibles f) k }
