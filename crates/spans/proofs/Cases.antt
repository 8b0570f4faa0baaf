-- Stretches at the horizon, by computation: H is 5, and a stretch goes from age 2 to age 4. Assumes nothing.
use Prim.Native.Nat.{ℕ}
use mathlib.Core.Path.{◌≡◌, refl}
use mathlib.Core.List.{[], ◌∷◌, map}
use Rattle.record.specs.declared.Stretch.{Stretch}
use Rattle.record.specs.declared.Record.{Record}
use Rattle.record.specs.Pairs.{no_pair}
use Rattle.record.specs.Stretches.{stretch, touches}
use Rattle.record.specs.Building.{empty_record, appended, joined, pushed}
use Rattle.record.proofs.Cases.{made, half}
use Rattle.spans.specs.Spans.{passed_in, moved_in}

-- after 1 second it ends at H; after 2 and 3 it is cut there and passes it; after 4 it has passed as a whole
pub at-the-horizon :
    let x : Stretch = stretch 2 4 half in
    let none : Record = empty_record 4 no_pair in
    (map (λ (s : ℕ). passed_in 5 s x) (1 ∷ 2 ∷ 3 ∷ 4 ∷ []) ≡ no_pair ∷ half ∷ half ∷ half ∷ [])
    × (map (λ (s : ℕ). moved_in 5 s x none) (1 ∷ 2 ∷ 3 ∷ 4 ∷ [])
    ≡ made 4 1 (stretch 3 5 half ∷ []) no_pair ∷ made 4 1 (stretch 4 5 half ∷ []) no_pair
    ∷ made 4 1 (stretch 5 5 half ∷ []) no_pair ∷ none ∷ [])
unfolding pushed appended joined touches
at-the-horizon = (refl, refl)
