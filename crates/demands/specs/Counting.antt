-- How many stretches there are of a kind. Assumes nothing: these are definitions.
use Rattle.std.specs.Prelude.{ℕ, ◌≡◌, ◌↔◌, length}
use mathlib.Core.List.{List, [], ◌∷◌, Memᴰ}
use Rattle.record.specs.declared.Stretch.{Stretch}

-- none of the list comes twice
unfoldable pub Once : List Stretch → Type 0
Once [] = Unit {0}
Once (x ∷ xs) = (¬ Memᴰ x xs) × Once xs

-- there are n of them: a list that has exactly those, each once, is n long. No other number will do (`there_are-one`)
pub record ThereAre (n : ℕ) (P : Stretch → Type 0) : Type 0 where
  pub list : List Stretch
  pub exactly : (x : Stretch) → Memᴰ x list ↔ P x
  pub once : Once list
  pub long : length list ≡ n
