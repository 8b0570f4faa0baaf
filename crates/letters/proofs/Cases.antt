-- What a letter leads back to age 0 from the ages of a stretch, by computation. Assumes nothing.
use mathlib.Core.Path.{◌≡◌, refl}
use Rattle.base.specs.Masks.{hasb, union}
use Rattle.table.specs.Table.{head_of, line_at}
use Rattle.meaning.specs.Tables.{table_of}
use Rattle.meaning.specs.Ages.{image}
use Rattle.meaning.proofs.Cases.{pump-table}
use Rattle.record.specs.declared.Pair.{Pair}
use Rattle.record.specs.Pairs.{no_pair, together}
use Rattle.record.specs.Stretches.{stretch}
use Rattle.record.specs.Records.{over_ages}
use Rattle.letters.specs.Letters.{led_back_in}

-- state 0 is possible at the ages of a stretch; a line resets it to state 2 at ages 2 to 4
pub led-back-from-ages :
    let p : Pair = record { sure = 0; possible = 1 } in
    (led_back_in (table_of pump-table) 0 (stretch 0 9 p) ≡ record { sure = 0; possible = 4 })
    × (led_back_in (table_of pump-table) 0 (stretch 4 9 p) ≡ record { sure = 0; possible = 4 })
    × (led_back_in (table_of pump-table) 0 (stretch 5 9 p) ≡ no_pair)
    × (led_back_in (table_of pump-table) 0 (stretch 0 1 p) ≡ no_pair)
unfolding led_back_in over_ages together image union hasb table_of head_of line_at
led-back-from-ages = (refl, refl, refl, refl)
