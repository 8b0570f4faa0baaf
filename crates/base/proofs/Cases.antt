-- The definitions on small inputs, by computation. Assumes nothing.
use mathlib.Core.Path.{◌≡◌, refl}
use mathlib.Core.List.{[], ◌∷◌, map}
use mathlib.Core.Bool.{true, false}
use Rattle.base.specs.Masks.{past_states}

-- state 2 alone, of 1, 2 and 3 states
pub past_edges : map (λ n. past_states n 4) (1 ∷ 2 ∷ 3 ∷ []) ≡ true ∷ true ∷ false ∷ []
past_edges = refl

-- all 16 states, of 15, 16 and 255; no state, of 1
pub past_full_edges : (map (λ n. past_states n 65535) (15 ∷ 16 ∷ 255 ∷ []) ≡ true ∷ false ∷ false ∷ [])
    × (past_states 1 0 ≡ false)
past_full_edges = (refl, refl)
