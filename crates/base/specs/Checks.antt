-- Checks and the numbers that they give (document 01, Numbers a call can answer with): 0 where a check passes. Assumes
-- nothing: these are definitions.
use Rattle.std.specs.Prelude.{ℕ, zero, suc, Bool}
use Rattle.base.specs.Masks.{pick}

infix 30 ◌if◌
infixr 20 ◌then◌
-- the number n where the test says so, 0 otherwise
abbrev pub ◌if◌ : ℕ → Bool → ℕ
n if b = pick b n

-- "each only after the ones before it passed": the first number that is not 0
abbrev pub ◌then◌ : ℕ → ℕ → ℕ
zero then n = n
suc m then n = suc m

-- "the first bad line decides": the first of f 0 to f (n - 1) that is not 0, 0 if all are
unfoldable pub first_of : ℕ → (ℕ → ℕ) → ℕ
first_of zero f = 0
first_of (suc n) f = first_of n f then f n
