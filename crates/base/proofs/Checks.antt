-- Checks in their order, read back: `Fails t A` says that the test t fails just where A holds, and `Passes n A` that no number
-- is given just where A holds. Checks are put together as the numbers are: `or` for `||`, `check` for `if`, `and_then` for
-- `then`, `each` for `first_of`. Then the first number as a loop finds it (`first_here`, `first_on`, `first_all`), and single
-- tests. Assumes nothing.
use Prim.Native.Nat.{ℕ, zero, suc, ◌+◌, ◌/◌, ◌^◌, ◌≤◌, ◌<◌}
use mathlib.Core.Path.{◌≡◌, refl, sym, subst, ◌∙◌}
use mathlib.Core.Logic.Iff
use mathlib.Core.Logic.{◌↔◌, ◌≢◌}
use mathlib.Core.Bool.{Bool, true, false, ◌||◌, not}
use native.Mathlib.Nat.{not-suc-le-zero}
use native.Mathlib.Decide.{ℕ_discrete}
use native.Mathlib.Numerals.{add-one}
use native.Mathlib.Omega.{arith}
use lib.Dec.{T as Is, eqb, leb, ltb, eqb→eq, leb→le, ltb→lt, nleb→lt, nltb→le, not_T}
use Rattle.base.specs.Masks.{past_states}
use Rattle.base.specs.Checks.{◌if◌, ◌then◌, first_of}
use Rattle.base.proofs.Tests.{eqb_iff}
use Rattle.base.proofs.Masks.{past_below}

-- the test t fails just where A holds
pub record Fails (t : Bool) (A : Type 0) : Type 0 where
  pub iff : (¬ Is t) ↔ A

-- the number n is 0 just where A holds
pub record Passes (n : ℕ) (A : Type 0) : Type 0 where
  pub iff : (n ≡ 0) ↔ A

infixl 30 ◌or◌
infixr 20 ◌and_then◌
-- neither of two tests says so
pub ◌or◌ : {s t : Bool} {A B : Type 0} → Fails s A → Fails t B → Fails (s || t) (A × B)
◌or◌ {s = true} p q = record { iff = ((λ h. absurd (h tt)), λ h. p.iff.1 h.0) }
◌or◌ {s = false} p q = record { iff = ((λ h. (p.iff.0 (λ z. z), q.iff.0 h)), λ h. q.iff.1 h.1) }

-- the check that gives n + 1 where the test t says so
pub check : (n : ℕ) {t : Bool} {A : Type 0} → Fails t A → Passes (suc n if t) A
check n {t = true} p = record { iff = ((λ e. absurd (let z : ⊥ = omega arith in z)), λ a. absurd (p.iff.1 a tt)) }
check n {t = false} p = record { iff = ((λ e. p.iff.0 (λ z. z)), λ a. refl) }

-- two checks in turn
pub ◌and_then◌ : {m n : ℕ} {A B : Type 0} → Passes m A → Passes n B → Passes (m then n) (A × B)
◌and_then◌ {m = zero} p q = record { iff = ((λ e. (p.iff.0 refl, q.iff.0 e)), λ h. q.iff.1 h.1) }
◌and_then◌ {m = suc m} p q = record { iff = ((λ e. absurd (let z : ⊥ = omega arith in z)), λ h. p.iff.1 h.0) }

-- a check for each number below n
pub each : (n : ℕ) {f : ℕ → ℕ} {A : ℕ → Type 0} → ((k : ℕ) → Passes (f k) (A k))
    → Passes (first_of n f) ((k : ℕ) → k < n → A k)
unfolding first_of
each zero p = record { iff = ((λ e k l. absurd (not-suc-le-zero l)), λ h. refl) }
each (suc n) {A = A} p = record { iff = Iff.trans (each n p and_then p n).iff (to, from) }
  where
    to : ((k : ℕ) → k < n → A k) × A n → (k : ℕ) → k < suc n → A k
    to h k l = go (ℕ_discrete k n)
      where
        go : Dec (k ≡ n) → A k
        go (yes e) = subst A (sym e) h.1
        go (no d) = h.0 k (omega arith)

    from : ((k : ℕ) → k < suc n → A k) → ((k : ℕ) → k < n → A k) × A n
    from h = ((λ k l. h k (omega arith)), h n (omega arith))

-- as a loop takes them: the numbers below n are all 0; then v, which is f n, is the first that is not, or all up to n are 0
pub first_here : (n e : ℕ) (f : ℕ → ℕ) (v : ℕ) → n < e → 0 ≡ first_of n f → v ≡ f n → v ≢ 0 → v ≡ first_of e f
unfolding first_of
first_here n zero f v l none here some = absurd (not-suc-le-zero l)
first_here n (suc e) f v l none here some = go (ℕ_discrete e n) (λ l. first_here n e f v l none here some)
  where
    stays : (a b : ℕ) → v ≡ a → v ≡ (a then b)
    stays zero b h = absurd (some h)
    stays (suc a) b h = h

    go : Dec (e ≡ n) → (n < e → v ≡ first_of e f) → v ≡ (first_of e f then f e)
    go (yes p) ih = rw (p, ← none) here
    go (no d) ih = stays (first_of e f) (f e) (ih (omega arith))

pub first_on : (n : ℕ) (f : ℕ → ℕ) (v : ℕ) → 0 ≡ first_of n f → v ≡ f n → v ≡ 0 → 0 ≡ first_of (n + 1) f
unfolding first_of
first_on n f v none here passed = rw (add-one n, ← none) (sym passed ∙ here)

pub first_all : (n e : ℕ) (f : ℕ → ℕ) → n ≡ e → 0 ≡ first_of n f → 0 ≡ first_of e f
first_all n e f l none = rw (← l) none

-- what each test of the checks says where it fails
pub below : (m n : ℕ) → Fails (leb m n) (n < m)
below m n = record { iff = ((λ h. nleb→lt m n (not_T (leb m n) h)), λ l t. omega (arith, leb→le m n t)) }

pub at_most : (m n : ℕ) → Fails (ltb m n) (n ≤ m)
at_most m n = record { iff = ((λ h. nltb→le m n (not_T (ltb m n) h)), λ l t. omega (arith, ltb→lt m n t)) }

pub not_zero : (m : ℕ) → Fails (eqb m 0) (1 ≤ m)
not_zero m = record { iff = (to, λ l t. omega (arith, eqb→eq m 0 t)) }
  where
    to : ¬ Is (eqb m 0) → 1 ≤ m
    to h = let n : ¬ (m ≡ 0) = λ e. h ((eqb_iff m 0).1 e) in
        omega arith

-- a test turned round
pub unless : (t : Bool) {A : Type 0} → Is t ↔ A → Fails (not t) A
unless true p = record { iff = ((λ h. p.0 tt), λ a z. z) }
unless false p = record { iff = ((λ h. absurd (h tt)), λ a z. p.1 a) }

pub equal : (m n : ℕ) → Fails (not (eqb m n)) (m ≡ n)
equal m n = unless (eqb m n) (eqb_iff m n)

pub within : (n mask : ℕ) → Fails (past_states n mask) (mask < 2 ^ n)
within n mask = record { iff = Iff.trans (equal (mask / 2 ^ n) 0).iff (past_below n mask) }
