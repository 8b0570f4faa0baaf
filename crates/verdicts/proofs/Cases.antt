-- What records say, by computation: state 1 accepts. Assumes nothing.
use mathlib.Core.Path.{◌≡◌, refl}
use mathlib.Core.List.{[], ◌∷◌, map}
use mathlib.Core.Bool.{true, false}
use Rattle.base.specs.Masks.{all}
use Rattle.record.specs.declared.Pair.{Pair}
use Rattle.record.specs.Pairs.{no_pair, together}
use Rattle.record.specs.Stretches.{stretch}
use Rattle.record.proofs.Cases.{made, half}
use Rattle.verdicts.specs.Said.{accepted_in, settled_in}

-- state 1 in both sets
abbrev sure_of_1 : Pair
sure_of_1 = record { sure = 2; possible = 2 }

-- nothing held; state 0 sure and 1 possible beside it, in a stretch, and above H alone; both sets equal in a stretch and above
pub said-by-records :
    let held = made 4 0 [] no_pair ∷ made 4 1 (stretch 0 3 half ∷ []) no_pair ∷ made 4 0 [] half
    ∷ made 4 2 (stretch 0 3 sure_of_1 ∷ stretch 5 5 sure_of_1 ∷ []) sure_of_1 ∷ [] in
    (map settled_in held ≡ true ∷ false ∷ false ∷ true ∷ [])
    × (map (accepted_in 2) held
    ≡ no_pair ∷ record { sure = 0; possible = 2 } ∷ record { sure = 0; possible = 2 } ∷ record { sure = 2; possible = 2 } ∷ [])
unfolding settled_in accepted_in together all
said-by-records = (refl, refl)
