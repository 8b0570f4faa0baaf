-- What a test says, as a fact: `eqb_iff`, `ne_iff`, `leb_iff`, `ltb_iff` for two numbers, `beq_iff` for two flags; `and_iff`,
-- `or_iff` and `not_iff` for tests put together, `all-iff` for a test of all numbers below n, which a loop takes by `all-next`
-- and `all-not`. `is_true` and `is_false` go from the fact to the test's value. Assumes nothing.
use Prim.Native.Nat.{ℕ, zero, suc, ◌+◌, ◌≤◌, ◌<◌}
use mathlib.Core.Path.{◌≡◌, refl, sym, subst}
use mathlib.Core.Logic.Iff
use mathlib.Core.Logic.{◌↔◌, ◌⊎◌, inl, inr, ◌≢◌, ⊎_elim}
use mathlib.Core.Bool.{Bool, true, false, ◌&&◌, ◌||◌, not, beq, true≢false, false≢true}
use native.Mathlib.Nat.{not-suc-le-zero}
use native.Mathlib.Decide.{ℕ_discrete}
use native.Mathlib.Numerals.{add-one}
use native.Mathlib.Omega.{arith}
use lib.Dec.{T as Is, eqb, leb, ltb, eqb→eq, eqb_refl, leb→le, le→leb, ltb→lt, lt→ltb, T_not, not_T}
use Rattle.base.specs.Masks.{all}

pub is_true : (b : Bool) → Is b → b ≡ true
is_true true h = refl
is_true false h = absurd h

pub is_false : (b : Bool) → ¬ Is b → b ≡ false
is_false true h = absurd (h tt)
is_false false h = refl

-- two tests that say the same are the same
pub bool_ext : (a b : Bool) → Is a ↔ Is b → a ≡ b
bool_ext true true h = refl
bool_ext true false h = absurd (h.0 tt)
bool_ext false true h = absurd (h.1 tt)
bool_ext false false h = refl

pub eqb_iff : (m n : ℕ) → Is (eqb m n) ↔ (m ≡ n)
eqb_iff m n = (eqb→eq m n, λ e. subst (λ (x : ℕ). Is (eqb m x)) e (eqb_refl m))

pub leb_iff : (m n : ℕ) → Is (leb m n) ↔ (m ≤ n)
leb_iff m n = (leb→le m n, le→leb m n)

pub ltb_iff : (m n : ℕ) → Is (ltb m n) ↔ (m < n)
ltb_iff m n = (ltb→lt m n, lt→ltb m n)

pub not_iff : (b : Bool) → Is (not b) ↔ (¬ Is b)
not_iff b = (T_not b, not_T b)

pub ne_iff : (m n : ℕ) → Is (not (eqb m n)) ↔ (m ≢ n)
ne_iff m n = Iff.trans (not_iff (eqb m n)) (Iff.not (eqb_iff m n))

pub beq_iff : (a b : Bool) → Is (beq a b) ↔ (a ≡ b)
beq_iff true true = ((λ h. refl), λ e. tt)
beq_iff true false = ((λ h. absurd h), λ e. absurd (true≢false e))
beq_iff false true = ((λ h. absurd h), λ e. absurd (false≢true e))
beq_iff false false = ((λ h. refl), λ e. tt)

module _ {A B : Type 0} where
  pub and_iff : (a b : Bool) → Is a ↔ A → Is b ↔ B → Is (a && b) ↔ (A × B)
  and_iff true b p q = ((λ h. (p.0 tt, q.0 h)), λ h. q.1 h.1)
  and_iff false b p q = ((λ h. absurd h), λ h. absurd (p.1 h.0))

  pub or_iff : (a b : Bool) → Is a ↔ A → Is b ↔ B → Is (a || b) ↔ (A ⊎ B)
  or_iff true b p q = ((λ h. inl (p.0 tt)), λ h. tt)
  or_iff false b p q = ((λ h. inr (q.0 h)), ⊎_elim (λ a. absurd (p.1 a)) q.1)

pub all-iff : (n : ℕ) (f : ℕ → Bool) → Is (all n f) ↔ ((i : ℕ) → i < n → Is (f i))
unfolding all
all-iff zero f = ((λ h i l. absurd (not-suc-le-zero l)), λ h. tt)
all-iff (suc n) f = (to (all-iff n f), from (all-iff n f))
  where
    Below : ℕ → Type 0
    Below m = (i : ℕ) → i < m → Is (f i)

    to : Is (all n f) ↔ Below n → Is (all n f && f n) → Below (suc n)
    to ih h i l = go (ℕ_discrete i n) ((and_iff (all n f) (f n) ih Iff.rfl).0 h)
      where
        go : Dec (i ≡ n) → Below n × Is (f n) → Is (f i)
        go (yes e) k = subst (λ (x : ℕ). Is (f x)) (sym e) k.1
        go (no d) k = k.0 i (omega arith)

    from : Is (all n f) ↔ Below n → Below (suc n) → Is (all n f && f n)
    from ih h = (and_iff (all n f) (f n) ih Iff.rfl).1 ((λ i l. h i (omega arith)), h n (omega arith))

-- as a loop takes them: up to n all say so, and f n too; or f n does not, and so not all below e
pub all-next : (n : ℕ) (f : ℕ → Bool) → true ≡ all n f → f n ≡ true → true ≡ all (n + 1) f
unfolding all
all-next n f before here = rw (add-one n, ← before) (sym here)

pub all-not : (n e : ℕ) (f : ℕ → Bool) → n < e → f n ≡ false → false ≡ all e f
all-not n e f l here = sym (is_false (all e f) (λ h. subst Is here ((all-iff e f).0 h n l)))
