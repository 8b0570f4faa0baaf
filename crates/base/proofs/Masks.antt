-- Sets of states: two masks with the same states are the same mask (`ext_has`), and which states a mask made of others has
-- (`has-or`, `has-and`, `has-bit`, `has-full`, `has-pick`, `has-cond`, `has-union`). Then: below 2 ^ n (`past_below`), parts,
-- the empty mask, the tests `hasb` and `m / 2 ^ i % 2`, and the largest of some numbers (`le_most`, `most-next`, `most-le`,
-- `most-attained`). Assumes nothing.
use Prim.Native.Nat.{ℕ, zero, suc, ◌+◌, ◌-◌, ◌/◌, ◌%◌, ◌^◌, ◌≤◌, ◌<◌, suc-le-suc, min, max}
use mathlib.Core.Path.{◌≡◌, refl, sym, ap, ◌∙◌, subst}
use mathlib.Core.Logic.Iff
use mathlib.Core.Logic.{◌↔◌, ◌⊎◌, inl, inr, ◌≢◌, ⊎_elim}
use mathlib.Core.Bool.{Bool, true, false, cond, not}
use native.Mathlib.Nat.{zero-add, suc-add, pow-suc, not-suc-le-zero, suc_inj, div-one, pow-succ', div-div-eq-div-mul, div-eq_of_lt, div-lt_iff_lt-mul, lt_of_lt_of_le}
use native.Mathlib.Decide.{ℕ_discrete, dec_le}
use native.Mathlib.Numerals.{add-one}
use native.Mathlib.Omega.{arith}
use lib.Arith.{digits_mod, lt-one, bin_ind}
use lib.Bits.{bit_or, bit_and, or_step, and_step, or_shr, and_shr}
use lib.Dec.{T as Is}
use lib.Pow.{pow_pos, pow_mono}
use Rattle.base.specs.Masks.{Has, hasb, Part, past_states, pick, union, most}
use Rattle.base.proofs.Tests.{eqb_iff}

low_cases : (a : ℕ) → (a % 2 ≡ 0) ⊎ (a % 2 ≡ 1)
low_cases a = go (ℕ_discrete (a % 2) 1)
  where
    go : Dec (a % 2 ≡ 1) → (a % 2 ≡ 0) ⊎ (a % 2 ≡ 1)
    go (yes e) = inr e
    go (no n) = inl (omega arith)

pub not_has_zero : (i : ℕ) → ¬ Has 0 i
unfolding Has
not_has_zero zero h = omega arith
not_has_zero (suc i) h = not_has_zero i h

-- ---- the same states, the same mask

pub ext_has : (a b : ℕ) → ((i : ℕ) → Has a i ↔ Has b i) → a ≡ b
unfolding Has
ext_has = bin_ind (λ (a : ℕ). (b : ℕ) → ((i : ℕ) → Has a i ↔ Has b i) → a ≡ b) base step
  where
    none : (b : ℕ) → ((i : ℕ) → ¬ Has b i) → 0 ≡ b
    none = bin_ind (λ (b : ℕ). ((i : ℕ) → ¬ Has b i) → 0 ≡ b) (λ h. refl)
        (λ b ih h. let e : 0 ≡ b / 2 = ih (λ i. h (suc i)) in
        let n : ¬ (b % 2 ≡ 1) = h 0 in
        omega arith)

    base : (b : ℕ) → ((i : ℕ) → Has 0 i ↔ Has b i) → 0 ≡ b
    base b h = none b (λ i hb. not_has_zero i ((h i).1 hb))

    step : (a : ℕ) → ((b : ℕ) → ((i : ℕ) → Has (a / 2) i ↔ Has b i) → a / 2 ≡ b)
        → (b : ℕ) → ((i : ℕ) → Has a i ↔ Has b i) → a ≡ b
    step a ih b h = go (low_cases a) (low_cases b)
      where
        e : a / 2 ≡ b / 2
        e = ih (b / 2) (λ i. h (suc i))

        go : (a % 2 ≡ 0) ⊎ (a % 2 ≡ 1) → (b % 2 ≡ 0) ⊎ (b % 2 ≡ 1) → a ≡ b
        go (inl x) (inl y) = omega (arith, e)
        go (inl x) (inr y) = let q : a % 2 ≡ 1 = (h 0).1 y in omega arith
        go (inr x) (inl y) = let q : b % 2 ≡ 1 = (h 0).0 x in omega arith
        go (inr x) (inr y) = omega (arith, e)

pub empty_mask : (m : ℕ) → ((i : ℕ) → ¬ Has m i) → m ≡ 0
empty_mask m h = ext_has m 0 (λ i. ((λ k. absurd (h i k)), λ k. absurd (not_has_zero i k)))

-- a mask that is not 0 has a state
pub nonempty : (m : ℕ) → m ≢ 0 → (i : ℕ) × Has m i
unfolding Has
nonempty = bin_ind (λ (m : ℕ). m ≢ 0 → (i : ℕ) × Has m i) (λ n. absurd (n refl))
    (λ m ih n. ⊎_elim (λ z. let r = ih (λ e. n (omega arith)) in (suc r.0, r.1)) (λ o. (0, o)) (low_cases m))

-- ---- masks made of others

or_low : (a b : ℕ) → bit_or a b % 2 ≡ max (a % 2) (b % 2)
or_low a b = ap (λ (x : ℕ). x % 2) (or_step a b) ∙ digits_mod (bit_or (a / 2) (b / 2)) (omega arith)

pub has-or : (a b i : ℕ) → Has (bit_or a b) i ↔ (Has a i ⊎ Has b i)
unfolding Has
has-or a b zero = (to, from)
  where
    to : bit_or a b % 2 ≡ 1 → (a % 2 ≡ 1) ⊎ (b % 2 ≡ 1)
    to h = ⊎_elim (λ z. inr (omega (arith, or_low a b))) (λ o. inl o) (low_cases a)

    from : (a % 2 ≡ 1) ⊎ (b % 2 ≡ 1) → bit_or a b % 2 ≡ 1
    from (inl h) = omega (arith, or_low a b)
    from (inr h) = omega (arith, or_low a b)
has-or a b (suc i) = rw (or_shr a b 1) (has-or (a / 2) (b / 2) i)

and_low : (a b : ℕ) → bit_and a b % 2 ≡ min (a % 2) (b % 2)
and_low a b = ap (λ (x : ℕ). x % 2) (and_step a b) ∙ digits_mod (bit_and (a / 2) (b / 2)) (omega arith)

pub has-and : (a b i : ℕ) → Has (bit_and a b) i ↔ (Has a i × Has b i)
unfolding Has
has-and a b zero = (to, from)
  where
    to : bit_and a b % 2 ≡ 1 → (a % 2 ≡ 1) × (b % 2 ≡ 1)
    to h = (omega (arith, and_low a b), omega (arith, and_low a b))

    from : (a % 2 ≡ 1) × (b % 2 ≡ 1) → bit_and a b % 2 ≡ 1
    from h = omega (arith, and_low a b)
has-and a b (suc i) = rw (and_shr a b 1) (has-and (a / 2) (b / 2) i)

pow_half : (p : ℕ) → 2 ^ suc p / 2 ≡ 2 ^ p
pow_half p = rw pow-suc (omega arith)

-- one state alone
pub has-bit : (p i : ℕ) → Has (2 ^ p) i ↔ (i ≡ p)
unfolding Has
has-bit zero zero = ((λ h. refl), λ e. refl)
has-bit zero (suc i) = ((λ h. absurd (not_has_zero i h)), λ e. absurd (let z : ⊥ = omega arith in z))
has-bit (suc p) zero = rw pow-suc ((λ h. omega arith), λ e. omega arith)
has-bit (suc p) (suc i) = rw pow_half ((λ h. ap suc ((has-bit p i).0 h)), λ e. (has-bit p i).1 (suc_inj e))

ones_half : (n : ℕ) → (2 ^ suc n - 1) / 2 ≡ 2 ^ n - 1
ones_half n = rw pow-suc (omega (arith, pow_pos n))

-- all of the first n states
pub has-full : (n i : ℕ) → Has (2 ^ n - 1) i ↔ (i < n)
unfolding Has
has-full zero i = ((λ h. absurd (not_has_zero i h)), λ l. absurd (not-suc-le-zero l))
has-full (suc n) zero = rw pow-suc ((λ h. omega arith), λ l. omega (arith, pow_pos n))
has-full (suc n) (suc i) = rw ones_half ((λ h. suc-le-suc ((has-full n i).0 h)), λ l. (has-full n i).1 (omega arith))

pub has-pick : (b : Bool) (m q : ℕ) → Has (pick b m) q ↔ (Is b × Has m q)
has-pick true m q = ((λ h. (tt, h)), λ h. h.1)
has-pick false m q = ((λ h. absurd (not_has_zero q h)), λ h. absurd h.0)

pub has-cond : (b : Bool) (m n q : ℕ) → Has (cond b m n) q ↔ ((Is b × Has m q) ⊎ (Is (not b) × Has n q))
has-cond true m n q = ((λ h. inl (tt, h)), ⊎_elim (λ h. h.1) (λ h. absurd h.0))
has-cond false m n q = ((λ h. inr (tt, h)), ⊎_elim (λ h. absurd h.0) (λ h. h.1))

pub has-union : (n : ℕ) (f : ℕ → ℕ) (q : ℕ) → Has (union n f) q ↔ ((u : ℕ) × (u < n) × Has (f u) q)
unfolding union
has-union zero f q = ((λ h. absurd (not_has_zero q h)), λ h. absurd (not-suc-le-zero h.1))
has-union (suc n) f q = (to (has-union n f q), from (has-union n f q))
  where
    Some : ℕ → Type 0
    Some m = (u : ℕ) × (u < m) × Has (f u) q

    to : Has (union n f) q ↔ Some n → Has (bit_or (union n f) (f n)) q → Some (suc n)
    to ih h = ⊎_elim
        (λ k. let r = ih.0 k in (r.0, omega arith, r.2))
        (λ k. (n, omega arith, k))
        ((has-or (union n f) (f n) q).0 h)

    from : Has (union n f) q ↔ Some n → Some (suc n) → Has (bit_or (union n f) (f n)) q
    from ih r = (has-or (union n f) (f n) q).1 (go (ℕ_discrete r.0 n))
      where
        go : Dec (r.0 ≡ n) → Has (union n f) q ⊎ Has (f n) q
        go (yes e) = inr (subst (λ (x : ℕ). Has (f x) q) e r.2)
        go (no d) = inl (ih.1 (r.0, omega arith, r.2))

-- ---- below 2 ^ n: no state is n or above

pub has-below : (n m i : ℕ) → m < 2 ^ n → Has m i → i < n
unfolding Has
has-below zero m i l h = absurd (not_has_zero i (subst (λ (x : ℕ). Has x i) (lt-one l) h))
has-below (suc n) m zero l h = omega arith
has-below (suc n) m (suc i) l h = suc-le-suc (has-below n (m / 2) i (omega (arith, rw pow-suc at l)) h)

pub below_has : (n m : ℕ) → ((i : ℕ) → Has m i → i < n) → m < 2 ^ n
unfolding Has
below_has zero m h = subst (λ (x : ℕ). x < 1) (sym (empty_mask m (λ i z. not-suc-le-zero (h i z)))) (omega arith)
below_has (suc n) m h = rw pow-suc (
    let ih : m / 2 < 2 ^ n = below_has n (m / 2) (λ i k. omega (arith, h (suc i) k)) in
    omega arith)

-- what `mask >> n != 0` tests
pub past_below : (n m : ℕ) → (m / 2 ^ n ≡ 0) ↔ (m < 2 ^ n)
past_below n m = (to, div-eq_of_lt)
  where
    to : m / 2 ^ n ≡ 0 → m < 2 ^ n
    to e = omega (arith, (div-lt_iff_lt-mul {x = m} {y = 1} (pow_pos n)).0 (omega arith))

-- once n states are shifted out, state i is what state n + i was
pub has-past : (n m i : ℕ) → Has (m / 2 ^ n) i ↔ Has m (n + i)
unfolding Has
has-past zero m i = rw (div-one, zero-add) Iff.rfl
has-past (suc n) m i = rw (pow-succ', ← div-div-eq-div-mul, suc-add) (has-past n (m / 2) i)

-- a mask of 16 bits passes no n from 16 on
pub past_none : (n m : ℕ) → m < 2 ^ 16 → 16 ≤ n → past_states n m ≡ false
past_none n m h l = rw (div-eq_of_lt (lt_of_lt_of_le h (pow_mono l)))

-- ---- a part of another: what `a | b == b` tests

pub part-or : (a b : ℕ) → Part a b ↔ (bit_or a b ≡ b)
part-or a b = (to, from)
  where
    to : Part a b → bit_or a b ≡ b
    to h = ext_has (bit_or a b) b (λ i. ((λ o. ⊎_elim (h i) (λ z. z) ((has-or a b i).0 o)), λ k. (has-or a b i).1 (inr k)))

    from : bit_or a b ≡ b → Part a b
    from e i h = rw e at ((has-or a b i).1 (inl h))

-- ---- tests of one state

pub hasb-iff : (m i : ℕ) → Is (hasb m i) ↔ Has m i
unfolding Has hasb
hasb-iff m zero = eqb_iff (m % 2) 1
hasb-iff m (suc i) = hasb-iff (m / 2) i

-- what `(m >> i) % 2 == 1` tests
pub has-shift : (i m : ℕ) → Has m i ↔ (m / 2 ^ i % 2 ≡ 1)
unfolding Has
has-shift zero m = rw div-one Iff.rfl
has-shift (suc i) m = rw (pow-succ', ← div-div-eq-div-mul) (has-shift i (m / 2))

-- ---- the largest

pub le_most : (n : ℕ) (f : ℕ → ℕ) (i : ℕ) → i < n → f i ≤ most n f
unfolding most
le_most zero f i h = absurd (not-suc-le-zero h)
le_most (suc n) f i h = go (ℕ_discrete i n) (le_most n f i)
  where
    go : Dec (i ≡ n) → (i < n → f i ≤ most n f) → f i ≤ max (most n f) (f n)
    go (yes e) ih = let z : f i ≡ f n = ap f e in omega arith
    go (no d) ih = let z : f i ≤ most n f = ih (omega arith) in omega arith

-- one number more, as a loop takes it
pub most-next : (n : ℕ) (f : ℕ → ℕ) (v : ℕ) → v ≡ max (most n f) (f n) → v ≡ most (n + 1) f
unfolding most
most-next n f v e = rw (add-one n) e

-- a bound of all numbers f 0 to f (n - 1) is one of the largest of them
pub most-le : (n : ℕ) (f : ℕ → ℕ) (c : ℕ) → ((i : ℕ) → i < n → f i ≤ c) → most n f ≤ c
unfolding most
most-le zero f c h = omega arith
most-le (suc n) f c h = omega (arith, most-le n f c (λ i l. h i (omega arith)), h n (omega arith))

-- the largest is one of them, where it is not 0
pub most-attained : (n : ℕ) (f : ℕ → ℕ) → (most n f ≡ 0) ⊎ ((i : ℕ) × (i < n) × (f i ≡ most n f))
unfolding most
most-attained zero f = inl refl
most-attained (suc n) f = go (dec_le (f n) (most n f)) (most-attained n f)
  where
    Attained : ℕ → ℕ → Type 0
    Attained m top = (top ≡ 0) ⊎ ((i : ℕ) × (i < m) × (f i ≡ top))

    go : Dec (f n ≤ most n f) → Attained n (most n f) → Attained (suc n) (max (most n f) (f n))
    go (yes l) (inl e) = inl (omega arith)
    go (yes l) (inr (i, b, e)) = inr (i, omega arith, omega arith)
    go (no d) h = inr (n, omega arith, omega arith)
