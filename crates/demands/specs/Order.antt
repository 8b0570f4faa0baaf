-- Checks in an order, each with its number, and what the first of them that fails gives (document 01, Numbers a call can answer
-- with): "Checks run in this order, each only after the ones before it passed. .. Each is given in its case and in no other."
-- Assumes nothing: these are definitions.
use Rattle.std.specs.Prelude.{ℕ, ◌≤◌, ◌≡◌, ◌↔◌, ◌⊎◌, List, [], ◌∷◌}

infix 80 ◌when◌
-- a row of document 01's table of numbers: the number, and when it is given. A check fails where that is so
pub data Check : Type 1 where
  ◌when◌ : ℕ → Type 0 → Check

-- no check fails
unfoldable pub AllPass : List Check → Type 0
AllPass [] = Unit {0}
AllPass ((n when A) ∷ cs) = (¬ A) × AllPass cs

-- the check with the number k fails, and every one before it passes
unfoldable pub FirstFails : List Check → ℕ → Type 0
FirstFails [] k = ⊥
FirstFails ((n when A) ∷ cs) k = ((n ≡ k) × A) ⊎ ((¬ A) × FirstFails cs k)

-- n is the number of the first check that fails, 0 exactly if none does: of every k from 1 on, it is k exactly if that is the
-- number of the first one
pub record Answers (cs : List Check) (n : ℕ) : Type 0 where
  pub accepted : (n ≡ 0) ↔ AllPass cs
  pub refused : (k : ℕ) → 1 ≤ k → (n ≡ k) ↔ FirstFails cs k
