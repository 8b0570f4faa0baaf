-- Where code asks one thing after another and returns, and a definition is written in the same order, `search tests` proves
-- each return: a rule for each way in which a definition goes on, and the tests' values from the facts that the code learnt.
-- `search checks` does the same of numbers. Assumes nothing.
use Prim.Native.Nat.{ℕ, zero, suc}
use mathlib.Core.Path.{◌≡◌, refl, sym, ◌∙◌}
use mathlib.Core.Bool.{Bool, true, false, ◌&&◌, ◌||◌, cond, not, true≢false}
use native.Mathlib.Omega.{arith}
use lib.Dec.{eqb}
use borrow.Author.Tests.{le-ltb, lt-ltb, le-leb, lt-leb, eq-eqb, ne_eqb, not-true, not-false}
use Rattle.base.specs.Checks.{◌if◌, ◌then◌}

-- what a callee answered, and the code asked
pub told : (f b v : Bool) → f ≡ b → f ≡ v → b ≡ v
told f b v p q = sym p ∙ q

pub not_told : (f b : Bool) → f ≡ b → not f ≡ not b
not_told f b e = rw e

pub not_of_true : (b : Bool) → b ≡ true → not b ≡ false
not_of_true b e = rw e

pub not_of_false : (b : Bool) → b ≡ false → not b ≡ true
not_of_false b e = rw e

module _ {A : Type 0} (b : Bool) (v x y : A) where
  pub chosen : b ≡ true → v ≡ x → v ≡ cond b x y
  chosen e h = rw e h

  pub left_out : b ≡ false → v ≡ y → v ≡ cond b x y
  left_out e h = rw e h

module _ (b c v : Bool) where
  pub either : b ≡ true → v ≡ true → v ≡ b || c
  either e h = rw e h

  pub neither : b ≡ false → v ≡ c → v ≡ b || c
  neither e h = rw e h

  pub also : b ≡ true → v ≡ c → v ≡ b && c
  also e h = rw e h

  pub not_also : b ≡ false → v ≡ false → v ≡ b && c
  not_also e h = rw e h

-- the same of tests that stand within others
module _ (b c : Bool) where
  pub or_left : b ≡ true → b || c ≡ true
  or_left e = rw e

  pub or_right : b ≡ false → c ≡ true → b || c ≡ true
  or_right e h = rw e h

  pub or_none : b ≡ false → c ≡ false → b || c ≡ false
  or_none e h = rw e h

  pub and_both : b ≡ true → c ≡ true → b && c ≡ true
  and_both e h = rw e h

  pub and_left : b ≡ false → b && c ≡ false
  and_left e = rw e

  pub and_right : b ≡ true → c ≡ false → b && c ≡ false
  and_right e h = rw e h

-- a check in its order: by a test, or by a number that a callee gave. That a number n is not 0 is a test too, which computes
pub stops : (n : ℕ) (b : Bool) (v x : ℕ) → b ≡ true → v ≡ n → eqb n 0 ≡ false → v ≡ (n if b then x)
stops zero b v x e h z = absurd (true≢false z)
stops (suc n) b v x e h z = rw e h

pub goes_on : (n : ℕ) (b : Bool) (v x : ℕ) → b ≡ false → v ≡ x → v ≡ (n if b then x)
goes_on n b v x e h = rw e h

pub last_check : (n : ℕ) (b : Bool) (v : ℕ) → b ≡ true → v ≡ n → v ≡ (n if b)
last_check n b v e h = rw e h

pub last_passed : (n : ℕ) (b : Bool) (v : ℕ) → b ≡ false → v ≡ 0 → v ≡ (n if b)
last_passed n b v e h = rw e h

pub stops_at : (f m x : ℕ) → f ≡ m → (f ≡ 0 → ⊥) → f ≡ (m then x)
stops_at f zero x e h = absurd (h e)
stops_at f (suc m) x e h = e

pub goes_past : (v f m x : ℕ) → f ≡ m → f ≡ 0 → v ≡ x → v ≡ (m then x)
goes_past v f zero x e z h = h
goes_past v f (suc m) x e z h = absurd (let none : ⊥ = omega arith in none)

-- for a definition that is a test
pub ruleset tests = (
  refl,
  told,
  not_told,
  not-true,
  not-false,
  not_of_true,
  not_of_false,
  chosen,
  left_out,
  either,
  neither,
  also,
  not_also,
  or_left,
  or_right,
  or_none,
  and_both,
  and_left,
  and_right,
  le-ltb,
  lt-ltb,
  le-leb,
  lt-leb,
  eq-eqb,
  ne_eqb,
)

-- for a definition that is a number, by checks in their order
pub ruleset checks = (
  refl,
  told,
  not_of_true,
  not_of_false,
  stops,
  goes_on,
  last_check,
  last_passed,
  stops_at,
  goes_past,
  le-ltb,
  lt-ltb,
  eq-eqb,
  ne_eqb,
)
