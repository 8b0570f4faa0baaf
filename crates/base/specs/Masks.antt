-- A set of states as a mask: bit i for state i (document 01, The table). Also what is taken over numbers 0 to n - 1 in turn:
-- a union, a maximum, a test of all. Each goes by the number done, as a loop does. Assumes nothing: these are definitions.
use Rattle.std.specs.Prelude.{ℕ, zero, suc, ◌/◌, ◌%◌, ◌^◌, max, ◌≡◌, Bool, true, false, ◌&&◌, not, eqb}
use Rattle.std.specs.Int.Bits.{bit_or}

-- state i is in m: bit 0 is the remainder by 2, and bit i + 1 of m is bit i of its half
unfoldable pub Has : ℕ → ℕ → Type 0
Has m zero = m % 2 ≡ 1
Has m (suc i) = Has (m / 2) i

-- the same, as a test
unfoldable pub hasb : ℕ → ℕ → Bool
hasb m zero = eqb (m % 2) 1
hasb m (suc i) = hasb (m / 2) i

-- every state of a is one of b
abbrev pub Part : ℕ → ℕ → Type 0
Part a b = (i : ℕ) → Has a i → Has b i

-- the mask has "a bit for state n or above" (document 01, number 5): something is left of it once n bits are shifted out
abbrev pub past_states : ℕ → ℕ → Bool
past_states n mask = not (eqb (mask / 2 ^ n) 0)

-- m where the test says so, and nothing where it does not
abbrev pub pick : Bool → ℕ → ℕ
pick true m = m
pick false m = 0

-- the union of f 0 to f (n - 1)
unfoldable pub union : ℕ → (ℕ → ℕ) → ℕ
union zero f = 0
union (suc n) f = bit_or (union n f) (f n)

-- the largest of f 0 to f (n - 1), 0 if there are none
unfoldable pub most : ℕ → (ℕ → ℕ) → ℕ
most zero f = 0
most (suc n) f = max (most n f) (f n)

-- f 0 to f (n - 1) all say so
unfoldable pub all : ℕ → (ℕ → Bool) → Bool
all zero f = true
all (suc n) f = all n f && f n
