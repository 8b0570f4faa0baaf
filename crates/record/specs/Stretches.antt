-- Stretches: what document 01 calls one (`LongestRun`), and the list of them (`stretches_of`). That the list has exactly the
-- longest runs is proved (`Longest`). Assumes nothing: these are definitions.
use Rattle.std.specs.Prelude.{ℕ, zero, suc, ◌+◌, ◌≤◌, ◌≡◌, ◌≢◌, List, [], ◌∷◌, reverse, Bool, true, false, ◌&&◌, cond, not, eqb}
use Rattle.record.specs.declared.Pair.{Pair}
use Rattle.record.specs.declared.Stretch.{Stretch}
use Rattle.record.specs.Pairs.{Pairs}

-- "consecutive ages in 0 to H with the same pair and a non-empty possible set": those from x's first to its last, both in
pub record RunOfAges (H : ℕ) (f : Pairs) (x : Stretch) : Type 0 where
  pub order : x.first ≤ x.last
  pub within : x.last ≤ H
  pub same : (k : ℕ) → x.first ≤ k → k ≤ x.last → f k ≡ x.pair
  pub some : x.pair.possible ≢ 0

-- "A stretch is a longest run of consecutive ages ..": no such run has it in it but itself
pub record LongestRun (H : ℕ) (f : Pairs) (x : Stretch) : Type 0 where
  pub run : RunOfAges H f x
  pub longest : (y : Stretch) → RunOfAges H f y → y.first ≤ x.first → x.last ≤ y.last → y ≡ x

-- the two pairs are the same
abbrev pub same_pair : Pair → Pair → Bool
same_pair p q = eqb p.sure q.sure && eqb p.possible q.possible

-- k is the first age of a longest run: its possible set is not empty, and the age before has another pair, or there is none
unfoldable pub first_age_at : Pairs → ℕ → Bool
first_age_at f zero = not (eqb (f 0).possible 0)
first_age_at f (suc k) = not (eqb (f (suc k)).possible 0) && not (same_pair (f k) (f (suc k)))

-- how many ages below n are the first of a longest run
unfoldable pub first_ages : ℕ → Pairs → ℕ
first_ages zero f = 0
first_ages (suc n) f = first_ages n f + cond (first_age_at f n) 1 0

-- ---- the list, age by age. To be believed is `LongestRun`: `stretches_longest` and `stretches_rising` prove that the list has
-- exactly those, in rising order

-- the ages a to b with the pair p
abbrev pub stretch : ℕ → ℕ → Pair → Stretch
stretch a b p = record { first = a; last = b; pair = p }

-- x ends directly before the age a, and has the pair p
unfoldable pub touches : Stretch → ℕ → Pair → Bool
touches x a p = eqb (suc x.last) a && same_pair x.pair p

-- behind the newest stretch x: it goes on (true), or a new one begins
abbrev pub put_if : Bool → Stretch → List Stretch → ℕ → ℕ → Pair → List Stretch
put_if true x xs a b p = stretch x.first b p ∷ xs
put_if false x xs a b p = stretch a b p ∷ x ∷ xs

-- behind the stretches, the newest first
abbrev pub put : List Stretch → ℕ → ℕ → Pair → List Stretch
put [] a b p = stretch a b p ∷ []
put (x ∷ xs) a b p = put_if (touches x a p) x xs a b p

-- nothing is possible (true), and no stretch goes on or begins
abbrev pub push_if : Bool → List Stretch → ℕ → ℕ → Pair → List Stretch
push_if true L a b p = L
push_if false L a b p = put L a b p

-- the ages a to b, all with the pair p, behind the stretches L of the ages below a, the newest first
unfoldable pub push : List Stretch → ℕ → ℕ → Pair → List Stretch
push L a b p = push_if (eqb p.possible 0) L a b p

-- the stretches of the ages below n, the newest first
unfoldable pub newest : ℕ → Pairs → List Stretch
newest zero f = []
newest (suc n) f = push (newest n f) n n (f n)

-- the stretches of the ages 0 to H, in rising order
abbrev pub stretches_of : ℕ → Pairs → List Stretch
stretches_of H f = reverse (newest (suc H) f)
