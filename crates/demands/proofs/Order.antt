-- The number that checks give is that of the first that fails, and no other will do (`answers_one`). Checks are put together as
-- the numbers are: `or` for `||`, `one` for `if`, `before` for `then`. Assumes nothing.
use Prim.Native.Nat.{ℕ, zero, suc, ◌≤◌}
use mathlib.Core.Path.{◌≡◌, refl, sym}
use mathlib.Core.Logic.Iff
use mathlib.Core.Logic.{◌↔◌, ◌⊎◌, inl, inr}
use mathlib.Core.List.{List, [], ◌∷◌, ◌++◌}
use mathlib.Core.Bool.{Bool, true, false, ◌||◌}
use native.Mathlib.Omega.{arith}
use lib.Dec.{T as Is}
use Rattle.base.specs.Checks.{◌if◌, ◌then◌}
use Rattle.base.proofs.Tests.{or_iff}
use Rattle.demands.specs.Order.{Check, ◌when◌, AllPass, FirstFails, Answers}

-- two numbers of the same checks are the same
pub answers_one : (cs : List Check) (m n : ℕ) → Answers cs m → Answers cs n → m ≡ n
answers_one cs zero n a b = sym (b.accepted.1 (a.accepted.0 refl))
answers_one cs (suc m) n a b = sym ((b.refused (suc m) (omega arith)).1 ((a.refused (suc m) (omega arith)).0 refl))

-- no checks
pub none : Answers [] 0
unfolding AllPass FirstFails
none = record { accepted = ((λ e. tt), λ h. refl); refused = λ k l. ((λ e. omega arith), λ f. absurd f) }

-- the test t says true just where A holds
pub record Tells (t : Bool) (A : Type 0) : Type 0 where
  pub iff : Is t ↔ A

infixl 30 ◌or◌
-- one of two tests says so
pub ◌or◌ : {s t : Bool} {A B : Type 0} → Tells s A → Tells t B → Tells (s || t) (A ⊎ B)
◌or◌ {s} {t} p q = record { iff = or_iff s t p.iff q.iff }

-- document 01's "or" of many, from the first on
pub regroup : {t : Bool} {A B C : Type 0} → Tells t ((A ⊎ B) ⊎ C) → Tells t (A ⊎ (B ⊎ C))
regroup {A = A} {B = B} {C = C} p = record { iff = Iff.trans p.iff (to, from) }
  where
    to : (A ⊎ B) ⊎ C → A ⊎ (B ⊎ C)
    to (inl (inl a)) = inl a
    to (inl (inr b)) = inr (inl b)
    to (inr c) = inr (inr c)

    from : A ⊎ (B ⊎ C) → (A ⊎ B) ⊎ C
    from (inl a) = inl (inl a)
    from (inr (inl b)) = inl (inr b)
    from (inr (inr c)) = inr c

-- one check, by its test
pub one : (n : ℕ) {t : Bool} {A : Type 0} → Tells t A → Answers ((suc n) when A ∷ []) (suc n if t)
unfolding AllPass FirstFails
one n {t = true} {A} p = record {
  accepted = ((λ e. absurd (let z : ⊥ = omega arith in z)), λ h. absurd (h.0 (p.iff.0 tt)));
  refused = λ k l. ((λ e. inl (e, p.iff.0 tt)), from k);
}
  where
    from : (k : ℕ) → ((suc n ≡ k) × A) ⊎ ((¬ A) × ⊥) → suc n ≡ k
    from k (inl h) = h.0
    from k (inr h) = absurd h.1
one n {t = false} {A} p = record {
  accepted = ((λ e. ((λ a. p.iff.1 a), tt)), λ h. refl);
  refused = λ k l. ((λ e. absurd (let z : ⊥ = omega arith in z)), from k);
}
  where
    from : (k : ℕ) → ((suc n ≡ k) × A) ⊎ ((¬ A) × ⊥) → 0 ≡ k
    from k (inl h) = absurd (p.iff.1 h.1)
    from k (inr h) = absurd h.1

-- ---- checks behind others

pass_both : (cs ds : List Check) → AllPass (cs ++ ds) ↔ (AllPass cs × AllPass ds)
unfolding AllPass
pass_both [] ds = ((λ h. (tt, h)), λ h. h.1)
pass_both ((n when A) ∷ cs) ds = let ih = pass_both cs ds in
    ((λ h. ((h.0, (ih.0 h.1).0), (ih.0 h.1).1)), λ h. (h.0.0, ih.1 (h.0.1, h.1)))

pub first_of-both : (cs ds : List Check) (k : ℕ) → FirstFails (cs ++ ds) k ↔ (FirstFails cs k ⊎ (AllPass cs × FirstFails ds k))
unfolding AllPass FirstFails
first_of-both [] ds k = (inr_there, from)
  where
    inr_there : FirstFails ds k → ⊥ ⊎ (Unit {0} × FirstFails ds k)
    inr_there h = inr (tt, h)

    from : ⊥ ⊎ (Unit {0} × FirstFails ds k) → FirstFails ds k
    from (inl z) = absurd z
    from (inr h) = h.1
first_of-both ((n when A) ∷ cs) ds k = (to (first_of-both cs ds k), from (first_of-both cs ds k))
  where
    Rest : Type 0
    Rest = FirstFails cs k ⊎ (AllPass cs × FirstFails ds k)

    Split : Type 0
    Split = (((n ≡ k) × A) ⊎ ((¬ A) × FirstFails cs k)) ⊎ (((¬ A) × AllPass cs) × FirstFails ds k)

    to : FirstFails (cs ++ ds) k ↔ Rest → ((n ≡ k) × A) ⊎ ((¬ A) × FirstFails (cs ++ ds) k) → Split
    to ih (inl h) = inl (inl h)
    to ih (inr (p, h)) = go (ih.0 h)
      where
        go : Rest → Split
        go (inl f) = inl (inr (p, f))
        go (inr (q, f)) = inr ((p, q), f)

    from : FirstFails (cs ++ ds) k ↔ Rest → Split → ((n ≡ k) × A) ⊎ ((¬ A) × FirstFails (cs ++ ds) k)
    from ih (inl (inl h)) = inl h
    from ih (inl (inr (p, f))) = inr (p, ih.1 (inl f))
    from ih (inr ((p, q), f)) = inr (p, ih.1 (inr (q, f)))

infixr 20 ◌before◌
-- "each only after the ones before it passed"
pub ◌before◌ : {cs ds : List Check} {m n : ℕ} → Answers cs m → Answers ds n → Answers (cs ++ ds) (m then n)
◌before◌ {cs} {ds} {m = zero} {n} p q = record {
  accepted = (
    (λ e. (pass_both cs ds).1 (p.accepted.0 refl, q.accepted.0 e)),
    λ h. q.accepted.1 ((pass_both cs ds).0 h).1,
  );
  refused = λ k l. (
    (λ e. (first_of-both cs ds k).1 (inr (p.accepted.0 refl, (q.refused k l).0 e))),
    λ h. from k l ((first_of-both cs ds k).0 h),
  );
}
  where
    from : (k : ℕ) → 1 ≤ k → FirstFails cs k ⊎ (AllPass cs × FirstFails ds k) → n ≡ k
    from k l (inl f) = absurd (let z : ⊥ = omega (arith, (p.refused k l).1 f) in z)
    from k l (inr h) = (q.refused k l).1 h.1
◌before◌ {cs} {ds} {m = suc m} {n} p q = record {
  accepted = (
    (λ e. absurd (let z : ⊥ = omega arith in z)),
    λ h. p.accepted.1 ((pass_both cs ds).0 h).0,
  );
  refused = λ k l. (
    (λ e. (first_of-both cs ds k).1 (inl ((p.refused k l).0 e))),
    λ h. from k l ((first_of-both cs ds k).0 h),
  );
}
  where
    from : (k : ℕ) → 1 ≤ k → FirstFails cs k ⊎ (AllPass cs × FirstFails ds k) → suc m ≡ k
    from k l (inl f) = (p.refused k l).1 f
    from k l (inr h) = absurd (let z : ⊥ = omega (arith, p.accepted.1 h.0) in z)
