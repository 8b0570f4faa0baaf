-- There is one number of stretches of a kind (`there_are-one`), and that of the longest runs is the length of their list
-- (`stretches_counted`). Assumes nothing.
use Prim.Native.Nat.{ℕ, zero, suc, ◌≤◌}
use mathlib.Core.Path.{◌≡◌, refl, sym, ap, ◌∙◌, subst}
use mathlib.Core.Logic.Iff
use mathlib.Core.Logic.{◌≢◌, ◌⊎◌, inl, inr}
use mathlib.Core.List.Memᴰ
use mathlib.Core.List.{List, [], ◌∷◌, Memᴰ}
use mathlib.Core.Bool.{Bool, true, false}
use native.Mathlib.Decide.{ℕ_discrete}
use native.Mathlib.Nat.{le_antisymm}
use native.Mathlib.Omega.{arith}
use lib.ListN.{length, length-reverse}
use Rattle.record.specs.declared.Stretch.{Stretch}
use Rattle.record.specs.Pairs.{Pairs}
use Rattle.record.specs.Stretches.{LongestRun, touches, put, put_if, push, newest, stretches_of}
use Rattle.record.proofs.Stretches.{push-none, push-some}
use Rattle.record.proofs.Longest.{Ends, longest_iff, newest-ends, ends-newest}
use Rattle.demands.specs.Counting.{Once, ThereAre}

-- ---- one number

-- the list without one of its members
without : (x : Stretch) (M : List Stretch) → Memᴰ x M
    → (N : List Stretch) × (length M ≡ suc (length N)) × ((y : Stretch) → Memᴰ y M → y ≢ x → Memᴰ y N)
without x [] m = absurd (Memᴰ.not-nil m)
without x (z ∷ zs) m = go (Memᴰ.cases_cons m) (without x zs)
  where
    Rest : List Stretch → Type 0
    Rest M = (N : List Stretch) × (length M ≡ suc (length N)) × ((y : Stretch) → Memᴰ y M → y ≢ x → Memᴰ y N)

    go : (x ≡ z) ⊎ Memᴰ x zs → (Memᴰ x zs → Rest zs) → Rest (z ∷ zs)
    go (inl e) ih = (zs, refl, λ y m d. here y d (Memᴰ.cases_cons m))
      where
        here : (y : Stretch) → y ≢ x → (y ≡ z) ⊎ Memᴰ y zs → Memᴰ y zs
        here y d (inl q) = absurd (d (q ∙ sym e))
        here y d (inr k) = k
    go (inr k) ih = (z ∷ (ih k).0, ap suc (ih k).1, λ y m d. there y d (Memᴰ.cases_cons m))
      where
        there : (y : Stretch) → y ≢ x → (y ≡ z) ⊎ Memᴰ y zs → Memᴰ y (z ∷ (ih k).0)
        there y d (inl q) = Memᴰ.head q
        there y d (inr n) = Memᴰ.tail ((ih k).2 y n d)

-- what has each member once is no longer than what has them all
no_longer : (L M : List Stretch) → Once L → ((y : Stretch) → Memᴰ y L → Memᴰ y M) → length L ≤ length M
unfolding Once
no_longer [] M o s = omega arith
no_longer (x ∷ xs) M (n, o) s = let rest = without x M (s x (Memᴰ.head refl)) in
    omega (
      arith,
      rest.1,
      no_longer xs rest.0 o
          (λ y m. rest.2 y (s y (Memᴰ.tail m)) (λ q. n (subst (λ (z : Stretch). Memᴰ z xs) q m))),
    )

pub there_are-one : (m n : ℕ) (P : Stretch → Type 0) → ThereAre m P → ThereAre n P → m ≡ n
there_are-one m n P a b = sym a.long ∙ le_antisymm
    (no_longer a.list b.list a.once (λ y h. (b.exactly y).1 ((a.exactly y).0 h)))
    (no_longer b.list a.list b.once (λ y h. (a.exactly y).1 ((b.exactly y).0 h)))
    ∙ b.long

-- ---- that of the longest runs

-- each stretch that the age n adds or lengthens ends there, and those before it end below
once-newest : (f : Pairs) (n : ℕ) → Once (newest n f)
unfolding Once newest
once-newest f zero = tt
once-newest f (suc n) = pushed (newest n f) (once-newest f n) (newest-ends f n)
  where
    not_yet : (x : Stretch) (L : List Stretch) → x.last ≡ n → ((y : Stretch) → Memᴰ y L → Ends n f y) → ¬ Memᴰ x L
    not_yet x L e ends m = omega (arith, e, (ends x m).below)

    pushed : (L : List Stretch) → Once L → ((y : Stretch) → Memᴰ y L → Ends n f y) → Once (push L n n (f n))
    pushed L o ends = go (ℕ_discrete (f n).possible 0)
      where
        placed : (L : List Stretch) → Once L → ((y : Stretch) → Memᴰ y L → Ends n f y) → Once (put L n n (f n))
        placed [] o ends = (not_yet _ [] refl ends, tt)
        placed (x ∷ xs) o ends = two (touches x n (f n))
          where
            two : (t : Bool) → Once (put_if t x xs n n (f n))
            two true = (not_yet _ xs refl (λ y m. ends y (Memᴰ.tail m)), o.1)
            two false = (not_yet _ (x ∷ xs) refl ends, o)

        go : Dec ((f n).possible ≡ 0) → Once (push L n n (f n))
        go (yes e) = subst Once (sym (push-none L n n (f n) e)) o
        go (no c) = subst Once (sym (push-some L n n (f n) c)) (placed L o ends)

pub stretches_counted : (H : ℕ) (f : Pairs) → ThereAre (length (stretches_of H f)) (LongestRun H f)
stretches_counted H f = record {
  list = newest (suc H) f;
  exactly = λ x. Iff.trans (newest-ends f (suc H) x, ends-newest f (suc H) x) (Iff.symm (longest_iff H f x));
  once = once-newest f (suc H);
  long = sym (length-reverse (newest (suc H) f));
}
