-- The list of stretches has exactly the longest runs of document 01 (`stretches_longest`), in rising order
-- (`stretches_rising` in `Records`), and as many as there are ages at which one starts (`stretches_count`, `first_age_at-longest`).
-- On the way: a run is longest exactly if it goes on at neither end (`longest_iff`). Assumes nothing.
use Prim.Native.Nat.{ℕ, zero, suc, ◌+◌, ◌≤◌, ◌<◌}
use mathlib.Core.Path.{◌≡◌, refl, sym, ap, ◌∙◌, subst}
use mathlib.Core.Logic.Iff
use mathlib.Core.Logic.{◌↔◌, ◌⊎◌, inl, inr, ◌≢◌, ⊎_elim}
use mathlib.Core.List.Memᴰ
use mathlib.Core.List.{List, [], ◌∷◌, ◌++◌, reverse, reverse-cons, Memᴰ}
use mathlib.Core.Bool.{Bool, true, false, cond, not}
use native.Mathlib.Nat.{le_refl, suc_inj}
use native.Mathlib.Decide.{ℕ_discrete, le_ind}
use native.Mathlib.Omega.{arith}
use lib.Dec.{T as Is, eqb}
use lib.ListN.{length, length-reverse}
use Rattle.base.proofs.Tests.{is_true, is_false, not_iff, ne_iff, and_iff}
use Rattle.record.specs.declared.Pair.{Pair}
use Rattle.record.specs.declared.Stretch.{Stretch}
use Rattle.record.specs.Pairs.{Pairs}
use Rattle.record.specs.Stretches.{RunOfAges, LongestRun, same_pair, first_age_at, first_ages, stretch, touches, put_if, put, push, newest, stretches_of}
use Rattle.record.proofs.Stretches.{same_pair-iff, touches-iff, push-none, push-some, newest-run, Apart, ProperList, put-apart, Any, newest-any}

-- a run of the ages below n that goes on at neither end
pub record Ends (n : ℕ) (f : Pairs) (x : Stretch) : Type 0 where
  pub order : x.first ≤ x.last
  pub below : x.last < n
  pub same : (k : ℕ) → x.first ≤ k → k ≤ x.last → f k ≡ x.pair
  pub some : x.pair.possible ≢ 0
  pub start : (k : ℕ) → suc k ≡ x.first → f k ≢ x.pair
  pub end : suc x.last < n → f (suc x.last) ≢ x.pair

last_pair : {n : ℕ} {f : Pairs} (x : Stretch) → Ends n f x → f x.last ≡ x.pair
last_pair x e = e.same x.last e.order (le_refl x.last)

stretch-ext : (x y : Stretch) → x.first ≡ y.first → x.last ≡ y.last → x.pair ≡ y.pair → x ≡ y
stretch-ext x y a b p = λ i. record { first = a i; last = b i; pair = p i }

module _ (H : ℕ) (f : Pairs) (x : Stretch) where
  -- a longest run with one age more before it, or behind it, would be a longer one
  longest→ends : LongestRun H f x → Ends (suc H) f x
  longest→ends l = record {
    order = r.order;
    below = omega (arith, r.within);
    same = r.same;
    some = r.some;
    start = start;
    end = end;
  }
    where
      r : RunOfAges H f x
      r = l.run

      start : (k : ℕ) → suc k ≡ x.first → f k ≢ x.pair
      start k e same = omega (arith, first)
        where
          at : (j : ℕ) → k ≤ j → j ≤ x.last → Dec (j ≡ k) → f j ≡ x.pair
          at j a b (yes d) = ap f d ∙ same
          at j a b (no d) = r.same j (omega arith) b

          y : Stretch
          y = stretch k x.last x.pair

          longer : RunOfAges H f y
          longer = record {
            order = omega (arith, r.order);
            within = r.within;
            same = λ j a b. at j a b (ℕ_discrete j k);
            some = r.some;
          }

          first : k ≡ x.first
          first = ap (λ (s : Stretch). s.first) (l.longest y longer (omega arith) (le_refl x.last))

      end : suc x.last < suc H → f (suc x.last) ≢ x.pair
      end b same = omega (arith, last)
        where
          at : (j : ℕ) → x.first ≤ j → j ≤ suc x.last → Dec (j ≡ suc x.last) → f j ≡ x.pair
          at j a b (yes d) = ap f d ∙ same
          at j a b (no d) = r.same j a (omega arith)

          y : Stretch
          y = stretch x.first (suc x.last) x.pair

          longer : RunOfAges H f y
          longer = record {
            order = omega (arith, r.order);
            within = omega arith;
            same = λ j a b. at j a b (ℕ_discrete j (suc x.last));
            some = r.some;
          }

          last : suc x.last ≡ x.last
          last = ap (λ (s : Stretch). s.last) (l.longest y longer (le_refl x.first) (omega arith))

  ends→longest : Ends (suc H) f x → LongestRun H f x
  ends→longest e = record {
    run = record { order = e.order; within = omega (arith, e.below); same = e.same; some = e.some };
    longest = longest;
  }
    where
      longest : (y : Stretch) → RunOfAges H f y → y.first ≤ x.first → x.last ≤ y.last → y ≡ x
      longest y r a b = stretch-ext y x
          (first x.first refl (ℕ_discrete y.first x.first))
          (last (ℕ_discrete y.last x.last))
          pairs
        where
          pairs : y.pair ≡ x.pair
          pairs = sym (r.same x.first a (omega (arith, e.order))) ∙ e.same x.first (le_refl x.first) e.order

          first : (j : ℕ) → x.first ≡ j → Dec (y.first ≡ x.first) → y.first ≡ x.first
          first j q (yes d) = d
          first zero q (no d) = omega arith
          first (suc k) q (no d) = absurd (e.start k (sym q) (r.same k (omega arith) (omega (arith, e.order)) ∙ pairs))

          last : Dec (y.last ≡ x.last) → y.last ≡ x.last
          last (yes d) = d
          last (no d) = absurd (e.end (omega (arith, r.within))
              (r.same (suc x.last) (omega (arith, e.order)) (omega arith) ∙ pairs))

  pub longest_iff : LongestRun H f x ↔ Ends (suc H) f x
  longest_iff = (longest→ends, ends→longest)

-- ---- a run that goes on at neither end is in the list

mem_put : (x : Stretch) (L : List Stretch) (a b : ℕ) (p : Pair) → ¬ Is (touches x a p) → Memᴰ x L
    → Memᴰ x (put L a b p)
mem_put x [] a b p n m = Memᴰ.tail m
mem_put x (y ∷ ys) a b p n m = go (touches y a p) refl (Memᴰ.cases_cons m)
  where
    go : (t : Bool) → touches y a p ≡ t → (x ≡ y) ⊎ Memᴰ x ys → Memᴰ x (put_if t y ys a b p)
    go true e (inl d) = absurd (n (subst Is (sym (ap (λ (z : Stretch). touches z a p) d ∙ e)) tt))
    go true e (inr k) = Memᴰ.tail k
    go false e (inl d) = Memᴰ.tail (Memᴰ.head d)
    go false e (inr k) = Memᴰ.tail (Memᴰ.tail k)

mem_push : (x : Stretch) (L : List Stretch) (a b : ℕ) (p : Pair) → ¬ Is (touches x a p) → Memᴰ x L
    → Memᴰ x (push L a b p)
mem_push x L a b p n m = go (ℕ_discrete p.possible 0)
  where
    go : Dec (p.possible ≡ 0) → Memᴰ x (push L a b p)
    go (yes e) = rw (push-none L a b p e) m
    go (no c) = rw (push-some L a b p c) (mem_put x L a b p n m)

-- the newest stretch ends at the last age, where that has something possible, and has its pair
head_of : (f : Pairs) (k : ℕ) → (f k).possible ≢ 0 → (a : ℕ) × (ys : List Stretch) × (newest (suc k) f ≡ stretch a k (f k) ∷ ys)
unfolding newest
head_of f k n = go (newest k f)
  where
    of_put : (L : List Stretch) → (a : ℕ) × (ys : List Stretch) × (put L k k (f k) ≡ stretch a k (f k) ∷ ys)
    of_put [] = (k, [], refl)
    of_put (y ∷ ys) = pick (touches y k (f k))
      where
        pick : (t : Bool) → (a : ℕ) × (zs : List Stretch) × (put_if t y ys k k (f k) ≡ stretch a k (f k) ∷ zs)
        pick true = (y.first, ys, refl)
        pick false = (k, y ∷ ys, refl)

    go : (L : List Stretch) → (a : ℕ) × (ys : List Stretch) × (push L k k (f k) ≡ stretch a k (f k) ∷ ys)
    go L = let r = of_put L in (r.0, r.1, push-some L k k (f k) n ∙ r.2)

module _ (f : Pairs) where
  -- in a proper list the stretches end below the bound
  mem_below : (L : List Stretch) (b : ℕ) (x : Stretch) → ProperList Any b L → Memᴰ x L → x.last < b
  mem_below [] b x h m = absurd (Memᴰ.not-nil m)
  mem_below (y ∷ ys) b x h m = ⊎_elim
      (λ e. omega (arith, ap (λ (z : Stretch). z.last) e, h.0.below))
      (λ k. omega (arith, mem_below ys y.first x h.2 k, h.0.order, h.0.below))
      (Memᴰ.cases_cons m)

  -- ---- what is in the list is such a run

  grows : (n : ℕ) (x : Stretch) → Ends n f x → (suc x.last ≡ n → f n ≢ x.pair) → Ends (suc n) f x
  grows n x e last = record {
    order = e.order;
    below = omega (arith, e.below);
    same = e.same;
    some = e.some;
    start = e.start;
    end = end (ℕ_discrete (suc x.last) n);
  }
    where
      end : Dec (suc x.last ≡ n) → suc x.last < suc n → f (suc x.last) ≢ x.pair
      end (yes d) l q = last d (ap f (sym d) ∙ q)
      end (no d) l q = e.end (omega (arith, e.below)) q

  -- a stretch that begins at n, where the newest one does not go on
  begins : (n : ℕ) → (f n).possible ≢ 0 → ((k : ℕ) → suc k ≡ n → f k ≢ f n) → Ends (suc n) f (stretch n n (f n))
  begins n c start = record {
    order = le_refl n;
    below = le_refl (suc n);
    same = λ k l u. ap f (omega arith);
    some = c;
    start = start;
    end = λ l. absurd (let z : ⊥ = omega arith in z);
  }

  -- where the age before has the same pair, the newest stretch goes on
  before : (n : ℕ) → (f n).possible ≢ 0 → (k : ℕ) → suc k ≡ n → f k ≡ f n
      → (y : Stretch) × (ys : List Stretch) × (newest n f ≡ y ∷ ys) × Is (touches y n (f n))
  before n c k e q =
      let h = head_of f k (λ z. c (ap (λ (p : Pair). p.possible) (sym q) ∙ z)) in
      let y : Stretch = stretch h.0 k (f k) in
      (y, h.1, ap (λ (m : ℕ). newest m f) (sym e) ∙ h.2, (touches-iff y n (f n)).1 (e, q))

  -- so it has another pair where there is no stretch, and where the newest one does not touch
  other_none : (n : ℕ) → (f n).possible ≢ 0 → newest n f ≡ [] → (k : ℕ) → suc k ≡ n → f k ≢ f n
  other_none n c e k s q = let b = before n c k s q in
      Memᴰ.not-nil (subst (Memᴰ b.0) (sym b.2 ∙ e) (Memᴰ.head refl))

  other_apart : (n : ℕ) → (f n).possible ≢ 0 → (y : Stretch) (ys : List Stretch) → newest n f ≡ y ∷ ys
      → touches y n (f n) ≡ false → (k : ℕ) → suc k ≡ n → f k ≢ f n
  other_apart n c y ys e t k s q = let b = before n c k s q in
      let d : b.0 ≡ y = ap (λ (L : List Stretch). elim L [ [] ↦ y | z ∷ zs ↦ z ]) (sym b.2 ∙ e) in
      subst Is (ap (λ (z : Stretch). touches z n (f n)) d ∙ t) b.3

  next-ends : (n : ℕ) → ((y : Stretch) → Memᴰ y (newest n f) → Ends n f y)
      → (x : Stretch) → Memᴰ x (newest (suc n) f) → Ends (suc n) f x
  unfolding newest
  next-ends n ih x m = go (ℕ_discrete (f n).possible 0)
    where
      placed : (c : (f n).possible ≢ 0) (L : List Stretch) → newest n f ≡ L → ProperList Any n L
          → Memᴰ x (put L n n (f n)) → Ends (suc n) f x
      placed c [] e h m = subst (Ends (suc n) f) (sym (Memᴰ.eq_of_singleton m)) (begins n c (other_none n c e))
      placed c (y ∷ ys) e h m = pick (touches y n (f n)) refl m
        where
          of_list : (z : Stretch) → Memᴰ z (y ∷ ys) → Ends n f z
          of_list z k = ih z (subst (Memᴰ z) (sym e) k)

          older : (z : Stretch) → Memᴰ z ys → Ends (suc n) f z
          older z k = grows n z (of_list z (Memᴰ.tail k)) (λ q. absurd (ends-sooner q))
            where
              ends-sooner : suc z.last ≢ n
              ends-sooner q = omega (arith, mem_below ys y.first z h.2 k, h.0.order, h.0.below)

          pick : (t : Bool) → touches y n (f n) ≡ t → Memᴰ x (put_if t y ys n n (f n)) → Ends (suc n) f x
          pick true t m = ⊎_elim (λ d. subst (Ends (suc n) f) (sym d) on) (older x) (Memᴰ.cases_cons m)
            where
              touch : (suc y.last ≡ n) × (y.pair ≡ f n)
              touch = (touches-iff y n (f n)).0 (subst Is (sym t) tt)

              was : Ends n f y
              was = of_list y (Memᴰ.head refl)

              on : Ends (suc n) f (stretch y.first n (f n))
              on = record {
                order = omega (arith, was.order, touch.0);
                below = le_refl (suc n);
                same = λ k l u. at k l u (ℕ_discrete k n);
                some = c;
                start = λ k s q. was.start k s (q ∙ sym touch.1);
                end = λ l. absurd (let z : ⊥ = omega arith in z);
              }
                where
                  at : (k : ℕ) → y.first ≤ k → k ≤ n → Dec (k ≡ n) → f k ≡ f n
                  at k l u (yes d) = ap f d
                  at k l u (no d) = was.same k l (omega (arith, touch.0)) ∙ touch.1
          pick false t m = ⊎_elim (λ d. subst (Ends (suc n) f) (sym d) new) old (Memᴰ.cases_cons m)
            where
              new : Ends (suc n) f (stretch n n (f n))
              new = begins n c (other_apart n c y ys e t)

              first : Ends (suc n) f y
              first = grows n y (of_list y (Memᴰ.head refl)) (λ s q. subst Is t ((touches-iff y n (f n)).1 (s, sym q)))

              old : Memᴰ x (y ∷ ys) → Ends (suc n) f x
              old k = ⊎_elim (λ d. subst (Ends (suc n) f) (sym d) first) (older x) (Memᴰ.cases_cons k)

      go : Dec ((f n).possible ≡ 0) → Ends (suc n) f x
      go (yes e) = let k : Memᴰ x (newest n f) = subst (Memᴰ x) (push-none (newest n f) n n (f n) e) m in
          grows n x (ih x k) (λ s q. (ih x k).some (ap (λ (p : Pair). p.possible) (sym q) ∙ e))
      go (no c) = placed c (newest n f) refl (newest-any n f) (subst (Memᴰ x) (push-some (newest n f) n n (f n) c) m)

  pub newest-ends : (n : ℕ) (x : Stretch) → Memᴰ x (newest n f) → Ends n f x
  unfolding newest
  newest-ends zero x m = absurd (Memᴰ.not-nil m)
  newest-ends (suc n) x m = next-ends n (newest-ends n) x m

  pub ends-newest : (n : ℕ) (x : Stretch) → Ends n f x → Memᴰ x (newest n f)
  unfolding newest
  ends-newest n x e = le_ind (λ (m : ℕ). m ≤ n → Memᴰ x (newest m f))
      (λ l. subst (Memᴰ x) (sym whole) (Memᴰ.head refl))
      (λ m l ih u. mem_push x (newest m f) m m (f m) (ended m u) (ih (omega arith)))
      n e.below (le_refl n)
    where
      ended : (m : ℕ) → m < n → ¬ Is (touches x m (f m))
      ended m u t = let q = (touches-iff x m (f m)).0 t in e.end (omega (arith, q.0)) (ap f q.0 ∙ sym q.1)

      apart : (j : ℕ) → x.first ≡ j → Apart x (newest j f)
      apart zero q = tt
      apart (suc k) q = behind (newest (suc k) f) (newest-ends (suc k))
        where
          behind : (L : List Stretch) → ((y : Stretch) → Memᴰ y L → Ends (suc k) f y) → Apart x L
          behind [] h = tt
          behind (y ∷ ys) h = λ s p. e.start y.last s (last_pair y (h y (Memᴰ.head refl)) ∙ p)

      whole : newest (suc x.last) f ≡ x ∷ newest x.first f
      whole =
          newest-run f x.first x.last x.pair e.order e.same
          ∙ push-some (newest x.first f) x.first x.last x.pair e.some
          ∙ put-apart Any x (newest x.first f) (apart x.first refl)

-- ---- the list has exactly the longest runs

mem_reverse : {A : Type 0} (x : A) (L : List A) → Memᴰ x (reverse L) ↔ Memᴰ x L
mem_reverse x [] = ((λ m. m), λ m. m)
mem_reverse x (y ∷ ys) = rw (reverse-cons y ys) (to (mem_reverse x ys), from (mem_reverse x ys))
  where
    to : Memᴰ x (reverse ys) ↔ Memᴰ x ys → Memᴰ x (reverse ys ++ (y ∷ [])) → Memᴰ x (y ∷ ys)
    to ih m = ⊎_elim
        (λ k. Memᴰ.tail (ih.0 k))
        (λ k. Memᴰ.head (Memᴰ.eq_of_singleton k))
        (Memᴰ.append_cases (reverse ys) m)

    from : Memᴰ x (reverse ys) ↔ Memᴰ x ys → Memᴰ x (y ∷ ys) → Memᴰ x (reverse ys ++ (y ∷ []))
    from ih m = ⊎_elim
        (λ e. Memᴰ.append_right (reverse ys) (Memᴰ.head e))
        (λ k. Memᴰ.append_left (y ∷ []) (ih.1 k))
        (Memᴰ.cases_cons m)

pub stretches_longest : (H : ℕ) (f : Pairs) (x : Stretch) → Memᴰ x (stretches_of H f) ↔ LongestRun H f x
stretches_longest H f x = Iff.trans (mem_reverse x (newest (suc H) f)) (Iff.trans in_newest (Iff.symm (longest_iff H f x)))
  where
    in_newest : Memᴰ x (newest (suc H) f) ↔ Ends (suc H) f x
    in_newest = (newest-ends f (suc H) x, ends-newest f (suc H) x)

-- ---- and as many as there are ages at which one starts

module _ (f : Pairs) where
  -- the age before k, if there is one, has another pair
  abbrev Different : ℕ → Type 0
  Different k = (j : ℕ) → suc j ≡ k → f j ≢ f k

  first_age_at-iff : (k : ℕ) → Is (first_age_at f k) ↔ (((f k).possible ≢ 0) × Different k)
  unfolding first_age_at
  first_age_at-iff zero = Iff.trans (ne_iff (f 0).possible 0) ((λ h. (h, λ j e. absurd (let z : ⊥ = omega arith in z))), λ h. h.0)
  first_age_at-iff (suc k) = Iff.trans
      (and_iff (not (eqb (f (suc k)).possible 0)) (not (same_pair (f k) (f (suc k)))) (ne_iff (f (suc k)).possible 0) other)
      ((λ h. (h.0, λ j e q. h.1 (ap f (sym (suc_inj e)) ∙ q))), λ h. (h.0, h.1 k refl))
    where
      other : Is (not (same_pair (f k) (f (suc k)))) ↔ (f k ≢ f (suc k))
      other = Iff.trans (not_iff (same_pair (f k) (f (suc k)))) (Iff.not (same_pair-iff (f k) (f (suc k))))

  -- an age more adds a stretch exactly if one starts there
  next-length : (n : ℕ) → length (newest (suc n) f) ≡ length (newest n f) + cond (first_age_at f n) 1 0
  unfolding newest
  next-length n = go (ℕ_discrete (f n).possible 0)
    where
      Adds : ℕ → ℕ → Type 0
      Adds old new = new ≡ old + cond (first_age_at f n) 1 0

      same : (old : ℕ) → ¬ (((f n).possible ≢ 0) × Different n) → Adds old old
      same old h = rw (is_false (first_age_at f n) (λ t. h ((first_age_at-iff n).0 t))) (omega arith)

      more : (old : ℕ) → ((f n).possible ≢ 0) × Different n → Adds old (suc old)
      more old h = rw (is_true (first_age_at f n) ((first_age_at-iff n).1 h)) (omega arith)

      placed : (c : (f n).possible ≢ 0) (L : List Stretch) → newest n f ≡ L → Adds (length L) (length (put L n n (f n)))
      placed c [] e = more 0 (c, other_none f n c e)
      placed c (y ∷ ys) e = pick (touches y n (f n)) refl
        where
          was : Ends n f y
          was = newest-ends f n y (subst (Memᴰ y) (sym e) (Memᴰ.head refl))

          pick : (t : Bool) → touches y n (f n) ≡ t → Adds (length (y ∷ ys)) (length (put_if t y ys n n (f n)))
          pick true t = let k = (touches-iff y n (f n)).0 (subst Is (sym t) tt) in
              same (length (y ∷ ys)) (λ h. h.1 y.last k.0 (last_pair y was ∙ k.1))
          pick false t = more (length (y ∷ ys)) (c, other_apart f n c y ys e t)

      go : Dec ((f n).possible ≡ 0) → Adds (length (newest n f)) (length (push (newest n f) n n (f n)))
      go (yes e) = rw (push-none (newest n f) n n (f n) e) (same (length (newest n f)) (λ h. h.0 e))
      go (no c) = rw (push-some (newest n f) n n (f n) c) (placed c (newest n f) refl)

  pub newest-count : (n : ℕ) → length (newest n f) ≡ first_ages n f
  unfolding newest first_ages
  newest-count zero = refl
  newest-count (suc n) = next-length n ∙ ap (λ (m : ℕ). m + cond (first_age_at f n) 1 0) (newest-count n)

-- a longest run starts at the age k exactly where `first_age_at` says so
module _ (H : ℕ) (f : Pairs) (k : ℕ) (low : k ≤ H) where
  -- a list with a stretch that begins at k
  abbrev Begun : List Stretch → Type 0
  Begun L = (x : Stretch) × Memᴰ x L × (x.first ≡ k)

  begun_push : (L : List Stretch) (a b : ℕ) (p : Pair) → Begun L → Begun (push L a b p)
  begun_push L a b p (x, m, e) = go (ℕ_discrete p.possible 0)
    where
      placed : (L : List Stretch) → Memᴰ x L → Begun (put L a b p)
      placed [] m = absurd (Memᴰ.not-nil m)
      placed (y ∷ ys) m = two (touches y a p) (Memᴰ.cases_cons m)
        where
          two : (t : Bool) → (x ≡ y) ⊎ Memᴰ x ys → Begun (put_if t y ys a b p)
          two true (inl d) = (stretch y.first b p, Memᴰ.head refl, sym (ap (λ (z : Stretch). z.first) d) ∙ e)
          two true (inr n) = (x, Memᴰ.tail n, e)
          two false (inl d) = (x, Memᴰ.tail (Memᴰ.head d), e)
          two false (inr n) = (x, Memᴰ.tail (Memᴰ.tail n), e)

      go : Dec (p.possible ≡ 0) → Begun (push L a b p)
      go (yes z) = rw (push-none L a b p z) (x, m, e)
      go (no c) = rw (push-some L a b p c) (placed L m)

  begun : ((f k).possible ≢ 0) × Different f k → Begun (newest (suc H) f)
  unfolding newest
  begun (c, other) = le_ind {n = suc k} (λ (n : ℕ). Begun (newest n f))
      (rw (push-some (newest k f) k k (f k) c) (first (newest k f) (newest-ends f k)))
      (λ n l ih. begun_push (newest n f) n n (f n) ih)
      (suc H) (omega arith)
    where
      first : (L : List Stretch) → ((y : Stretch) → Memᴰ y L → Ends k f y) → Begun (put L k k (f k))
      first [] h = (stretch k k (f k), Memᴰ.head refl, refl)
      first (y ∷ ys) h = two (touches y k (f k)) refl
        where
          two : (t : Bool) → touches y k (f k) ≡ t → Begun (put_if t y ys k k (f k))
          two true t = let q = (touches-iff y k (f k)).0 (subst Is (sym t) tt) in
              absurd (other y.last q.0 (last_pair y (h y (Memᴰ.head refl)) ∙ q.1))
          two false t = (stretch k k (f k), Memᴰ.head refl, refl)

  pub first_age_at-longest : Is (first_age_at f k) ↔ ((x : Stretch) × LongestRun H f x × (x.first ≡ k))
  first_age_at-longest = Iff.trans (first_age_at-iff f k) (to, from)
    where
      to : ((f k).possible ≢ 0) × Different f k → (x : Stretch) × LongestRun H f x × (x.first ≡ k)
      to h = let b = begun h in (b.0, (longest_iff H f b.0).1 (newest-ends f (suc H) b.0 b.1), b.2)

      from : (x : Stretch) × LongestRun H f x × (x.first ≡ k) → ((f k).possible ≢ 0) × Different f k
      from (x, l, e) = (
        (λ z. g.some (ap (λ (p : Pair). p.possible) (sym here) ∙ z)),
        λ j s q. g.start j (s ∙ sym e) (q ∙ here),
      )
        where
          g : Ends (suc H) f x
          g = (longest_iff H f x).0 l

          here : f k ≡ x.pair
          here = g.same k (omega (arith, e)) (omega (arith, e, g.order))

pub stretches_count : (H : ℕ) (f : Pairs) → length (stretches_of H f) ≡ first_ages (suc H) f
stretches_count H f = length-reverse (newest (suc H) f) ∙ newest-count f (suc H)
