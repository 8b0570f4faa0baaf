-- What an entry that was read says: it ends within its bytes, and reading goes on behind it. Assumes nothing.
use Prim.Native.Nat.{ℕ, ◌+◌, ◌≤◌, ◌<◌}
use mathlib.Core.Path.{◌≡◌, refl, sym, ap}
use mathlib.Core.List.{List}
use mathlib.Core.Bool.{Bool, true, false, cond, ◌&&◌, true≢false}
use native.Mathlib.Omega.{arith}
use lib.Dec.{eqb, ltb}
use lib.ListN.{length}
use borrow.Author.Tests.{ltb-true, eqb-true}
use Rattle.std.specs.Prelude.{Some}
use Rattle.table.specs.Numbers.{byte}
use Rattle.entries.specs.Entries.{is_entry, got, read_at}
use Rattle.entries.specs.declared.Symbol.{Symbol}
use Rattle.entries.specs.declared.Entry.{Entry}

all_hold : (a b c : Bool) → a && b && c ≡ true → (a ≡ true) × (b ≡ true) × (c ≡ true)
all_hold true true c e = (refl, refl, e)
all_hold true false c e = absurd (true≢false (sym e))
all_hold false b c e = absurd (true≢false (sym e))

module _ (s : List ℕ) (at size kind : ℕ) (there : is_entry s at size kind ≡ true) where
  -- its last byte is there, and its length byte and its kind byte are what was asked for
  pub entry_parts : (at + size < length s) × (byte s at ≡ size) × (byte s (at + 1) ≡ kind)
  unfolding is_entry
  entry_parts =
      let all = all_hold (ltb (at + size) (length s)) (eqb (byte s at) size) (eqb (byte s (at + 1)) kind) there in
      (ltb-true _ _ all.0, eqb-true _ _ all.1, eqb-true _ _ all.2)

  pub entry_within : at + size < length s
  entry_within = entry_parts.0

-- what was chosen came by the test, or without it
by_test : {A B : Type 0} (b : Bool) (x y v : A) → cond b x y ≡ v → (b ≡ true → x ≡ v → B) → (y ≡ v → B) → B
by_test true x y v e taken left = taken refl e
by_test false x y v e taken left = left e

-- an entry that was read: the next place is at least two bytes on and not past the end, and the ordinal is the one handed over
module _ (s : List ℕ) (at k : ℕ) (e : Entry) (next : ℕ) where
  got-onward : (size kind : ℕ) (symbol : Symbol) (behind : ℕ) → 1 ≤ size → behind ≡ at + size + 1
      → is_entry s at size kind ≡ true → got k symbol behind ≡ Some (e, next)
      → (at + 2 ≤ next) × (next ≤ length s) × (e.ordinal ≡ k)
  got-onward size kind symbol behind some past there r =
      let both : ◌≡◌ {A = Entry × ℕ} (record { ordinal = k; symbol = symbol }, behind) (e, next) = cc in
      let same : behind ≡ next = ap (λ (p : Entry × ℕ). p.1) both in
      (omega arith, omega (arith, entry_within s at size kind there), ap (λ (p : Entry × ℕ). p.0.ordinal) (sym both))

  pub read_onward : read_at s at k ≡ Some (e, next) → (at + 2 ≤ next) × (next ≤ length s) × (e.ordinal ≡ k)
  unfolding read_at
  read_onward r =
      by_test (is_entry s at 2 1) _ _ _ r (got-onward 2 1 _ (at + 3) (omega arith) (omega arith))
      (λ r. by_test (is_entry s at 5 2) _ _ _ r (got-onward 5 2 _ (at + 6) (omega arith) (omega arith))
      (λ r. by_test (is_entry s at 1 3) _ _ _ r (got-onward 1 3 _ (at + 2) (omega arith) (omega arith))
      (λ r. let never : ◌≡◌ {A = ℕ} 0 1 = cc in absurd (let none : ⊥ = omega arith in none))))
