-- Pieces of ages and images, by computation, on a table whose lines of letter 0 hold at any age, at ages 2 to 4 and at ages 0
-- to 6, and of letter 1 at ages 3 on and at ages 0 to 1 (`pump-table`). Assumes nothing.
use Prim.Native.Nat.{ℕ}
use mathlib.Core.Path.{◌≡◌, refl}
use mathlib.Core.List.{[], ◌∷◌, map}
use mathlib.Core.Bool.{true, false}
use Rattle.base.specs.Masks.{hasb, union}
use Rattle.table.specs.Table.{head_of, line_at}
use Rattle.meaning.specs.Tables.{table_of}
use Rattle.meaning.specs.Ages.{image}
use Rattle.meaning.proofs.Cases.{pump-table}
use Rattle.record.specs.declared.Pair.{Pair}
use Rattle.record.specs.Pairs.{no_pair}
use Rattle.image.specs.Images.{image_pair, least, line_until, until_of}

-- of letter 0, by the lines that keep: ages 0 to 6, and on from 7; by the one that resets: ages 0 to 1, 2 to 4, and on from 5. Of
-- letter 1, likewise: ages 0 to 2, and on from 3; ages 0 to 1, and on from 2. Nothing goes past the age that was asked
pub pieces : (map (λ (x : ℕ). until_of (table_of pump-table) false 0 x 9) (0 ∷ 2 ∷ 7 ∷ []) ≡ 6 ∷ 6 ∷ 9 ∷ [])
    × (map (λ (x : ℕ). until_of (table_of pump-table) true 0 x 9) (0 ∷ 2 ∷ 5 ∷ []) ≡ 1 ∷ 4 ∷ 9 ∷ [])
    × (map (λ (x : ℕ). until_of (table_of pump-table) false 1 x 9) (0 ∷ 2 ∷ 3 ∷ []) ≡ 2 ∷ 2 ∷ 9 ∷ [])
    × (map (λ (x : ℕ). until_of (table_of pump-table) true 1 x 9) (0 ∷ 1 ∷ 2 ∷ []) ≡ 1 ∷ 1 ∷ 9 ∷ [])
    × (until_of (table_of pump-table) true 0 3 3 ≡ 3)
unfolding until_of least line_until table_of head_of line_at
pieces = (refl, refl, refl, refl, refl)

-- state 0 is possible and not sure; letter 0 leads it to state 2, reset, at ages 2 to 4, and to state 1, kept, at any age
pub led-apart :
    let p : Pair = record { sure = 0; possible = 1 } in
    (map (λ (t : ℕ). image_pair (table_of pump-table) true 0 t p) (1 ∷ 2 ∷ 4 ∷ 5 ∷ [])
    ≡ no_pair ∷ record { sure = 0; possible = 4 } ∷ record { sure = 0; possible = 4 } ∷ no_pair ∷ [])
    × (map (λ (t : ℕ). image_pair (table_of pump-table) false 0 t p) (0 ∷ 99 ∷ [])
    ≡ record { sure = 0; possible = 2 } ∷ record { sure = 0; possible = 2 } ∷ [])
unfolding image union hasb table_of head_of line_at
led-apart = (refl, refl)
