-- A letter, over the stretches of a record: what it leads back to age 0, and what it keeps at the ages above. Assumes nothing:
-- these are definitions.
use Rattle.std.specs.Prelude.{ℕ, ◌≤◌, ◌<◌, ◌≡◌, List, true, false}
use Rattle.meaning.specs.Tables.{Table, table_of, horizon}
use Rattle.meaning.specs.Runs.{letter}
use Rattle.meaning.specs.Ages.{ages}
use Rattle.record.specs.declared.Pair.{Pair}
use Rattle.record.specs.declared.Stretch.{Stretch}
use Rattle.record.specs.declared.Record.{Record}
use Rattle.record.specs.Pairs.{Pairs, together, step_pairs}
use Rattle.record.specs.Stretches.{newest}
use Rattle.record.specs.Records.{pairs_at, over_ages}
use Rattle.record.specs.Building.{held_in}
use Rattle.image.specs.Images.{image_pair}

-- the pairs after the letter a, of those that the record r holds
abbrev pub after_letter : List ℕ → ℕ → Record → ℕ → Pairs
after_letter b H r a = step_pairs (table_of b) (letter a) (pairs_at H r)

-- where the resetting lines lead from every age of the pairs f, all ages above H taken as one
unfoldable pub led_back : Table → ℕ → Pairs → Pair
led_back T a f = together (ages (horizon T)) (λ k. image_pair T true a k (f k))

-- the standing states, in both sets
abbrev pub standing_pair : Table → Pair
standing_pair T = record { sure = T.standing; possible = T.standing }

-- where the resetting lines lead from the ages of the stretch x
unfoldable pub led_back_in : Table → ℕ → Stretch → Pair
led_back_in T a x = over_ages x (λ k. image_pair T true a k x.pair)

-- `before` holds the stretches of ages below lo, and `after` those below hi, of any pairs g that at the ages between are what
-- the letter a keeps of p; whatever the room, and the pair above H
abbrev pub KeptOn : Table → ℕ → Pair → ℕ → ℕ → Record → Record → Type 0
KeptOn T a p lo hi before after =
    (room : ℕ) (above : Pair) (g : Pairs) → room ≤ 64 → ((k : ℕ) → lo ≤ k → k < hi → g k ≡ image_pair T false a k p)
    → before ≡ held_in room above (newest lo g) → after ≡ held_in room above (newest hi g)
