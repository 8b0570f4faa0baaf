-- What a proper record says of an age, by its places: a place says the pair of its ages (`pairs-in`), an age between two places
-- has none (`pairs-between`), and there is no other age (`held_or_none`). So all its ages taken together are all its places and
-- the pair above H (`together-held`). Assumes nothing.
use Prim.Native.Nat.{ℕ, zero, suc, ◌≤◌, ◌<◌}
use mathlib.Core.Path.{◌≡◌, refl, sym, ap, ap₂, ◌∙◌, subst}
use mathlib.Core.Logic.{◌⊎◌, inl, inr, ⊎_elim}
use mathlib.Core.Bool.{Bool, cond}
use native.Mathlib.Decide.{dec_le}
use native.Mathlib.Omega.{arith}
use lib.Dec.{T as Is}
use Rattle.base.specs.Masks.{Has}
use Rattle.base.proofs.Tests.{is_true, is_false}
use Rattle.base.proofs.Masks.{ext_has}
use Rattle.meaning.specs.Ages.{ages}
use Rattle.record.specs.declared.Pair.{Pair}
use Rattle.record.specs.declared.Record.{Record}
use Rattle.record.specs.Pairs.{no_pair, both, together}
use Rattle.record.specs.Records.{place, inside, pair_in, pairs_at, over_ages, Proper}
use Rattle.record.proofs.Stretches.{inside-iff}
use Rattle.record.proofs.Records.{pairs_at-low, pairs_at-above}
use Rattle.record.proofs.Together.{side, side-ext, has-together, has-over, not_has_none}

module _ (H n : ℕ) (r : Record) (ok : Proper H n r) where
  abbrev In : ℕ → ℕ → Type 0
  In i k = ((place r i).first ≤ k) × (k ≤ (place r i).last)

  -- the places before place i end before it begins
  ends-before : (i j : ℕ) → i < r.count → j < i → (place r j).last < (place r i).first
  ends-before (suc i) j l m = go (dec_le i j) (λ b. ends-before i j (omega arith) b)
    where
      go : Dec (i ≤ j) → (j < i → (place r j).last < (place r i).first) → (place r j).last < (place r (suc i)).first
      go (yes c) ih = subst (λ (m : ℕ). (place r m).last < (place r (suc i)).first)
          (let e : i ≡ j = omega arith in e) (ok.rising i l)
      go (no c) ih = omega (arith, ih (omega arith), (ok.each i (omega arith)).order, ok.rising i l)
  ends-before zero j l m = absurd (let z : ⊥ = omega arith in z)

  -- a place says the pair of its ages
  among : (i k : ℕ) → In i k → (c : ℕ) → c ≤ r.count → i < c → pair_in r.places c k ≡ (place r i).pair
  unfolding pair_in
  among i k h zero l m = absurd (let z : ⊥ = omega arith in z)
  among i k h (suc c) l m = go (dec_le c i) (λ b. among i k h c (omega arith) b)
    where
      go : Dec (c ≤ i) → (i < c → pair_in r.places c k ≡ (place r i).pair)
          → cond (inside (place r c) k) (place r c).pair (pair_in r.places c k) ≡ (place r i).pair
      go (yes b) ih = let e : i ≡ c = omega arith in
          rw (← e, is_true (inside (place r i) k) ((inside-iff (place r i) k).1 h))
      go (no b) ih = rw (is_false (inside (place r c) k) above) (ih (omega arith))
        where
          above : ¬ Is (inside (place r c) k)
          above t = let j = (inside-iff (place r c) k).0 t in
              let z = ends-before c i l (omega arith) in omega (arith, h.1, j.0)

  -- an age of no place among the first c has no pair there
  none : (k c : ℕ) → ((i : ℕ) → i < c → ¬ In i k) → pair_in r.places c k ≡ no_pair
  unfolding pair_in
  none k zero h = refl
  none k (suc c) h = rw (is_false (inside (place r c) k) (λ t. h c (omega arith) ((inside-iff (place r c) k).0 t)))
      (none k c (λ i l. h i (omega arith)))

  low : (k : ℕ) → k ≤ H → pairs_at H r k ≡ pair_in r.places r.count k
  low = pairs_at-low H r (omega (arith, ok.fits, ok.room_high))

  pub pairs-in : (i k : ℕ) → i < r.count → (place r i).first ≤ k → k ≤ (place r i).last → pairs_at H r k ≡ (place r i).pair
  pairs-in i k l a b = low k (omega (arith, (ok.each i l).within)) ∙ among i k (a, b) r.count (omega arith) l

  pairs-out : (k : ℕ) → k ≤ H → ((i : ℕ) → i < r.count → ¬ In i k) → pairs_at H r k ≡ no_pair
  pairs-out k l h = low k l ∙ none k r.count h

  -- an age between two places, below the first of them or above the last: i is the place above it
  pub pairs-between : (i k : ℕ) → i ≤ r.count → k ≤ H → ((j : ℕ) → suc j ≡ i → (place r j).last < k)
      → (i < r.count → k < (place r i).first) → pairs_at H r k ≡ no_pair
  pairs-between i k c l below above = pairs-out k l (λ j b h. go j b h (dec_le i j) (dec_le j i))
    where
      ended : (i j : ℕ) → i ≤ r.count → j < i → ((j : ℕ) → suc j ≡ i → (place r j).last < k) → (place r j).last < k
      ended zero j c l below = absurd (let z : ⊥ = omega arith in z)
      ended (suc i) j c l below = last (dec_le i j)
        where
          last : Dec (i ≤ j) → (place r j).last < k
          last (yes d) = below j (omega arith)
          last (no d) = omega (arith, ends-before i j c (omega arith), (ok.each i c).order, below i refl)

      go : (j : ℕ) → j < r.count → In j k → Dec (i ≤ j) → Dec (j ≤ i) → ⊥
      go j b h (no d) e = omega (arith, h.1, ended i j c (omega arith) below)
      go j b h (yes d) (yes e) = let same : j ≡ i = omega arith in
          omega (arith, above (omega arith), subst (λ (m : ℕ). (place r m).first ≤ k) same h.0)
      go j b h (yes d) (no e) = omega (
        arith,
        h.0,
        above (omega arith),
        ends-before j i b (omega arith),
        (ok.each i (omega arith)).order,
      )

  -- an age is in a place, or has no pair
  search_place : (k c : ℕ) → ((i : ℕ) × (i < c) × In i k) ⊎ ((i : ℕ) → i < c → ¬ In i k)
  search_place k zero = inr (λ i l. absurd (let z : ⊥ = omega arith in z))
  search_place k (suc c) = go (search_place k c) (dec_le (place r c).first k) (dec_le k (place r c).last)
    where
      -- neither the places below c nor place c has it
      nor : ((i : ℕ) → i < c → ¬ In i k) → ¬ In c k → (i : ℕ) → i < suc c → ¬ In i k
      nor h n i l j = by (dec_le c i)
        where
          by : Dec (c ≤ i) → ⊥
          by (yes b) = n (subst (λ (m : ℕ). In m k) (let e : i ≡ c = omega arith in e) j)
          by (no b) = h i (omega arith) j

      go : ((i : ℕ) × (i < c) × In i k) ⊎ ((i : ℕ) → i < c → ¬ In i k)
          → Dec ((place r c).first ≤ k) → Dec (k ≤ (place r c).last)
          → ((i : ℕ) × (i < suc c) × In i k) ⊎ ((i : ℕ) → i < suc c → ¬ In i k)
      go (inl (i, l, h)) a b = inl (i, omega arith, h)
      go (inr h) (yes a) (yes b) = inl (c, omega arith, (a, b))
      go (inr h) (yes a) (no b) = inr (nor h (λ j. b j.1))
      go (inr h) (no a) b = inr (nor h (λ j. a j.0))

  pub held_or_none : (k : ℕ) → k ≤ H → ((i : ℕ) × (i < r.count) × In i k) ⊎ (pairs_at H r k ≡ no_pair)
  held_or_none k l = ⊎_elim inl (λ h. inr (pairs-out k l h)) (search_place k r.count)

  -- of ages that h makes nothing of where there is no pair: all ages together are all places together, and above H
  pub together-held : (h : ℕ → Pair → Pair) → ((k : ℕ) → h k no_pair ≡ no_pair)
      → together (ages H) (λ k. h k (pairs_at H r k))
      ≡ both (together r.count (λ i. over_ages (place r i) (λ k. h k (place r i).pair))) (h (suc H) r.above)
  unfolding together
  together-held h empty = ap₂ both places (ap (h (suc H)) (pairs_at-above H r))
    where
      f : ℕ → Pair
      f k = h k (pairs_at H r k)

      g : ℕ → Pair
      g i = over_ages (place r i) (λ k. h k (place r i).pair)

      to : (s : Bool) (i : ℕ) → Has (side s (together (suc H) f)) i → Has (side s (together r.count g)) i
      to s i j = let u = (has-together s (suc H) f i).0 j in go u.0 u.2 (held_or_none u.0 (omega (arith, u.1)))
        where
          go : (k : ℕ) → Has (side s (f k)) i → ((m : ℕ) × (m < r.count) × In m k) ⊎ (pairs_at H r k ≡ no_pair)
              → Has (side s (together r.count g)) i
          go k d (inl (m, l, (a, b))) = (has-together s r.count g i).1 (
            m,
            l,
            (has-over s (place r m) _ i).1
                (k, a, b, subst (λ (p : Pair). Has (side s (h k p)) i) (pairs-in m k l a b) d),
          )
          go k d (inr e) = absurd (not_has_none s i (subst (λ (p : Pair). Has (side s p) i) (ap (h k) e ∙ empty k) d))

      from : (s : Bool) (i : ℕ) → Has (side s (together r.count g)) i → Has (side s (together (suc H) f)) i
      from s i j = let u = (has-together s r.count g i).0 j in
          let v = (has-over s (place r u.0) _ i).0 u.2 in
          let e = pairs-in u.0 v.0 u.1 v.1 v.2 in
          (has-together s (suc H) f i).1 (
            v.0,
            omega (arith, v.2, (ok.each u.0 u.1).within),
            subst (λ (p : Pair). Has (side s (h v.0 p)) i) (sym e) v.3,
          )

      places : together (suc H) f ≡ together r.count g
      places = side-ext (together (suc H) f) (together r.count g) (λ s. ext_has _ _ (λ i. (to s i, from s i)))
