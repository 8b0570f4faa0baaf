-- Pairs taken together. A loop over ages or places takes one more (`together-next`), or a run of ages with one pair at once
-- (`together-run`), and begins with ages that say nothing (`together-none`); of a stretch the last age may say all
-- (`over_last`). Assumes nothing.
use Prim.Native.Nat.{ℕ, zero, suc, ◌+◌, ◌≤◌, ◌<◌}
use mathlib.Core.Path.{◌≡◌, refl, sym, ap₂, subst}
use mathlib.Core.Logic.{◌↔◌, ◌⊎◌, inl, inr, ⊎_elim}
use mathlib.Core.Bool.{Bool, true, false, cond}
use native.Mathlib.Decide.{dec_le}
use native.Mathlib.Numerals.{add-one}
use native.Mathlib.Omega.{arith}
use lib.Dec.{T as Is, leb}
use Rattle.base.specs.Masks.{Has, union}
use Rattle.base.proofs.Tests.{is_true, leb_iff}
use Rattle.base.proofs.Masks.{not_has_zero, ext_has, has-union, has-or}
use Rattle.record.specs.declared.Pair.{Pair}
use Rattle.record.specs.declared.Stretch.{Stretch}
use Rattle.record.specs.Pairs.{Pairs, no_pair, both, together}
use Rattle.record.specs.Records.{over_ages}
use Rattle.record.proofs.Stretches.{pair_ext}

-- ---- one of the two sets of a pair, so that a law is said once for both

abbrev pub side : Bool → Pair → ℕ
side true p = p.sure
side false p = p.possible

pub side-ext : (p q : Pair) → ((s : Bool) → side s p ≡ side s q) → p ≡ q
side-ext p q e = pair_ext p q (e true) (e false)

pub side-together : (s : Bool) (n : ℕ) (f : ℕ → Pair) → side s (together n f) ≡ union n (λ k. side s (f k))
unfolding together union
side-together true zero f = refl
side-together false zero f = refl
side-together true (suc n) f = rw (side-together true n f)
side-together false (suc n) f = rw (side-together false n f)

has_both : (s : Bool) (p q : Pair) (i : ℕ) → Has (side s (both p q)) i ↔ (Has (side s p) i ⊎ Has (side s q) i)
has_both true p q i = has-or p.sure q.sure i
has_both false p q i = has-or p.possible q.possible i

pub has-together : (s : Bool) (n : ℕ) (f : ℕ → Pair) (i : ℕ)
    → Has (side s (together n f)) i ↔ ((k : ℕ) × (k < n) × Has (side s (f k)) i)
has-together s n f i = rw (side-together s n f) (has-union n (λ k. side s (f k)) i)

pub not_has_none : (s : Bool) (i : ℕ) → ¬ Has (side s no_pair) i
not_has_none true i = not_has_zero i
not_has_none false i = not_has_zero i

-- ---- what a loop uses

pub together-next : (n : ℕ) (f : ℕ → Pair) (v : Pair) → v ≡ both (together n f) (f n) → v ≡ together (n + 1) f
unfolding together
together-next n f v e = rw (add-one n) e

-- the pairs from a on up to b are one and the same
pub together-run : (f : ℕ → Pair) (a b : ℕ) (p : Pair) → a ≤ b → ((k : ℕ) → a ≤ k → k ≤ b → f k ≡ p)
    → together (suc b) f ≡ both (together a f) p
together-run f a b p l same = side-ext (together (suc b) f) (both (together a f) p) (λ s. ext_has _ _ (λ i. (to s i, from s i)))
  where
    to : (s : Bool) (i : ℕ) → Has (side s (together (suc b) f)) i → Has (side s (both (together a f) p)) i
    to s i h = let u = (has-together s (suc b) f i).0 h in
        (has_both s (together a f) p i).1 (go u.0 u.1 u.2 (dec_le a u.0))
      where
        go : (k : ℕ) → k < suc b → Has (side s (f k)) i → Dec (a ≤ k) → Has (side s (together a f)) i ⊎ Has (side s p) i
        go k m j (yes c) = inr (subst (λ (q : Pair). Has (side s q) i) (same k c (omega arith)) j)
        go k m j (no c) = inl ((has-together s a f i).1 (k, omega arith, j))

    from : (s : Bool) (i : ℕ) → Has (side s (both (together a f) p)) i → Has (side s (together (suc b) f)) i
    from s i h = (has-together s (suc b) f i).1 (⊎_elim below here ((has_both s (together a f) p i).0 h))
      where
        below : Has (side s (together a f)) i → (k : ℕ) × (k < suc b) × Has (side s (f k)) i
        below j = let u = (has-together s a f i).0 j in (u.0, omega (arith, u.1), u.2)

        here : Has (side s p) i → (k : ℕ) × (k < suc b) × Has (side s (f k)) i
        here j = (a, omega arith, subst (λ (q : Pair). Has (side s q) i) (sym (same a (omega arith) l)) j)

pub together-none : (f : ℕ → Pair) (n : ℕ) → ((k : ℕ) → k < n → f k ≡ no_pair) → together n f ≡ no_pair
together-none f n none = side-ext (together n f) no_pair (λ s. ext_has _ _ (λ i. (to s i, λ h. absurd (not_has_none s i h))))
  where
    to : (s : Bool) (i : ℕ) → Has (side s (together n f)) i → Has (side s no_pair) i
    to s i h = let u = (has-together s n f i).0 h in subst (λ (q : Pair). Has (side s q) i) (none u.0 u.1) u.2

pub together-cong : (n : ℕ) (f g : ℕ → Pair) → ((k : ℕ) → k < n → f k ≡ g k) → together n f ≡ together n g
unfolding together
together-cong zero f g e = refl
together-cong (suc n) f g e = ap₂ both (together-cong n f g (λ k l. e k (omega arith))) (e n (omega arith))

pub has-over : (s : Bool) (x : Stretch) (f : Pairs) (i : ℕ)
    → Has (side s (over_ages x f)) i ↔ ((k : ℕ) × (x.first ≤ k) × (k ≤ x.last) × Has (side s (f k)) i)
unfolding over_ages
has-over s x f i = (
  (λ h. let u = (has-together s (suc x.last) from i).0 h in
      let v = taken u.0 (leb x.first u.0) refl u.2 in
      (u.0, v.0, omega (arith, u.1), v.1)),
  λ (k, l, m, h). (has-together s (suc x.last) from i).1
      (k, omega arith, subst (λ (p : Pair). Has (side s p) i) (sym (begun k l)) h),
)
  where
    from : ℕ → Pair
    from k = cond (leb x.first k) (f k) no_pair

    begun : (k : ℕ) → x.first ≤ k → from k ≡ f k
    begun k l = rw (is_true (leb x.first k) ((leb_iff x.first k).1 l))

    taken : (k : ℕ) (b : Bool) → leb x.first k ≡ b → Has (side s (cond b (f k) no_pair)) i → (x.first ≤ k) × Has (side s (f k)) i
    taken k true e h = ((leb_iff x.first k).0 (subst Is (sym e) tt), h)
    taken k false e h = absurd (not_has_none s i h)

-- the ages of x say what its last age says, where each says that or nothing
pub over_last : (x : Stretch) (f : Pairs) → x.first ≤ x.last
    → ((k : ℕ) → k ≤ x.last → (f k ≡ f x.last) ⊎ (f k ≡ no_pair)) → over_ages x f ≡ f x.last
over_last x f l alike = side-ext (over_ages x f) (f x.last) (λ s. ext_has _ _ (λ i. (to s i, from s i)))
  where
    to : (s : Bool) (i : ℕ) → Has (side s (over_ages x f)) i → Has (side s (f x.last)) i
    to s i h = let u = (has-over s x f i).0 h in
        ⊎_elim (λ e. subst (λ (p : Pair). Has (side s p) i) e u.3)
        (λ e. absurd (not_has_none s i (subst (λ (p : Pair). Has (side s p) i) e u.3)))
        (alike u.0 u.2)

    from : (s : Bool) (i : ℕ) → Has (side s (f x.last)) i → Has (side s (over_ages x f)) i
    from s i h = (has-over s x f i).1 (x.last, l, omega arith, h)
