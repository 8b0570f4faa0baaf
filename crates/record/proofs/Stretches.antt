-- The list of stretches that `newest` makes. What a loop over pieces of ages uses: `newest-run` (a piece at once),
-- `newest-skip` (ages where nothing is possible), `newest-cong`, `push-length`, `newest-length`. Then the list and what it says
-- of each age (`said`): a proper list is that of what it says (`canon`), and the list of f is proper and says f
-- (`newest-proper`, `said-newest`). `P` is what is known of every pair. Assumes nothing.
use Prim.Native.Nat.{ℕ, zero, suc, ◌≤◌, ◌<◌}
use mathlib.Core.Path.{◌≡◌, refl, sym, ap, ap₂, ◌∙◌, subst}
use mathlib.Core.Logic.Iff
use mathlib.Core.Logic.{◌↔◌, ◌≢◌}
use mathlib.Core.List.{List, [], ◌∷◌}
use mathlib.Core.Bool.{Bool, true, false, cond}
use native.Mathlib.Nat.{le_refl, le_trans}
use native.Mathlib.Decide.{ℕ_discrete, dec_le, le_ind}
use native.Mathlib.Omega.{arith}
use lib.Dec.{T as Is, eqb, leb}
use lib.ListN.{length}
use Rattle.base.proofs.Tests.{is_true, is_false, eqb_iff, leb_iff, and_iff}
use Rattle.record.specs.declared.Pair.{Pair}
use Rattle.record.specs.declared.Stretch.{Stretch}
use Rattle.record.specs.Pairs.{Pairs, no_pair}
use Rattle.record.specs.Stretches.{same_pair, stretch, touches, put_if, put, push_if, push, newest}
use Rattle.record.specs.Records.{inside}

-- ---- the tests, as facts

pub pair_ext : (p q : Pair) → p.sure ≡ q.sure → p.possible ≡ q.possible → p ≡ q
pair_ext p q s e = λ i. record { sure = s i; possible = e i }

pub same_pair-iff : (p q : Pair) → Is (same_pair p q) ↔ (p ≡ q)
same_pair-iff p q = Iff.trans masks
    ((λ h. pair_ext p q h.0 h.1), λ e. (ap (λ (x : Pair). x.sure) e, ap (λ (x : Pair). x.possible) e))
  where
    masks : Is (same_pair p q) ↔ ((p.sure ≡ q.sure) × (p.possible ≡ q.possible))
    masks = and_iff (eqb p.sure q.sure) (eqb p.possible q.possible)
        (eqb_iff p.sure q.sure) (eqb_iff p.possible q.possible)

pub touches-iff : (x : Stretch) (a : ℕ) (p : Pair) → Is (touches x a p) ↔ ((suc x.last ≡ a) × (x.pair ≡ p))
unfolding touches
touches-iff x a p = and_iff (eqb (suc x.last) a) (same_pair x.pair p) (eqb_iff (suc x.last) a) (same_pair-iff x.pair p)

pub inside-iff : (x : Stretch) (k : ℕ) → Is (inside x k) ↔ ((x.first ≤ k) × (k ≤ x.last))
unfolding inside
inside-iff x k = and_iff (leb x.first k) (leb k x.last) (leb_iff x.first k) (leb_iff k x.last)

pub push-none : (L : List Stretch) (a b : ℕ) (p : Pair) → p.possible ≡ 0 → push L a b p ≡ L
unfolding push
push-none L a b p e = ap (λ (t : Bool). push_if t L a b p) (is_true (eqb p.possible 0) ((eqb_iff p.possible 0).1 e))

pub push-some : (L : List Stretch) (a b : ℕ) (p : Pair) → p.possible ≢ 0 → push L a b p ≡ put L a b p
unfolding push
push-some L a b p n = ap (λ (t : Bool). push_if t L a b p) (is_false (eqb p.possible 0) (λ h. n ((eqb_iff p.possible 0).0 h)))

-- ---- ages with one pair, at once

touches-self : (a b : ℕ) (p : Pair) → touches (stretch a b p) (suc b) p ≡ true
touches-self a b p = is_true (touches (stretch a b p) (suc b) p) ((touches-iff (stretch a b p) (suc b) p).1 (refl, refl))

put-put : (L : List Stretch) (a b : ℕ) (p : Pair) → put (put L a b p) (suc b) (suc b) p ≡ put L a (suc b) p
put-put [] a b p = rw touches-self
put-put (x ∷ xs) a b p = go (touches x a p)
  where
    go : (t : Bool) → put (put_if t x xs a b p) (suc b) (suc b) p ≡ put_if t x xs a (suc b) p
    go true = rw touches-self
    go false = rw touches-self

push-push : (L : List Stretch) (a b : ℕ) (p : Pair) → push (push L a b p) (suc b) (suc b) p ≡ push L a (suc b) p
unfolding push
push-push L a b p = go (eqb p.possible 0)
  where
    go : (t : Bool) → push_if t (push_if t L a b p) (suc b) (suc b) p ≡ push_if t L a (suc b) p
    go true = refl
    go false = put-put L a b p

module _ (f : Pairs) where
  pub newest-run : (a b : ℕ) (p : Pair) → a ≤ b → ((k : ℕ) → a ≤ k → k ≤ b → f k ≡ p) → newest (suc b) f ≡ push (newest a f) a b p
  unfolding newest
  newest-run a b p l h = le_ind To (λ h. ap (push (newest a f) a a) (h a (le_refl a) (le_refl a))) next b l h
    where
      To : ℕ → Type 0
      To m = ((k : ℕ) → a ≤ k → k ≤ m → f k ≡ p) → newest (suc m) f ≡ push (newest a f) a m p

      next : (m : ℕ) → a ≤ m → To m → To (suc m)
      next m l ih h =
          ap₂ (λ (L : List Stretch) (q : Pair). push L (suc m) (suc m) q)
          (ih (λ k c d. h k c (omega arith))) (h (suc m) (omega arith) (le_refl (suc m)))
          ∙ push-push (newest a f) a m p

  pub newest-skip : (a b : ℕ) → a ≤ b → ((k : ℕ) → a ≤ k → k < b → (f k).possible ≡ 0) → newest b f ≡ newest a f
  unfolding newest
  newest-skip a b l h = le_ind (λ (m : ℕ). ((k : ℕ) → a ≤ k → k < m → (f k).possible ≡ 0) → newest m f ≡ newest a f)
      (λ h. refl)
      (λ m l ih h. push-none (newest m f) m m (f m) (h m l (omega arith)) ∙ ih (λ k c d. h k c (omega arith)))
      b l h

pub newest-cong : (n : ℕ) (f g : Pairs) → ((k : ℕ) → k < n → f k ≡ g k) → newest n f ≡ newest n g
unfolding newest
newest-cong zero f g h = refl
newest-cong (suc n) f g h = ap₂ (λ (L : List Stretch) (p : Pair). push L n n p)
    (newest-cong n f g (λ k l. h k (omega arith)))
    (h n (omega arith))

-- ---- a push adds at most one stretch, and more ages never need fewer

pub push-length : (L : List Stretch) (a b : ℕ) (p : Pair)
    → (length L ≤ length (push L a b p)) × (length (push L a b p) ≤ suc (length L))
unfolding push
push-length L a b p = go (eqb p.possible 0)
  where
    OneMore : List Stretch → List Stretch → Type 0
    OneMore L M = (length L ≤ length M) × (length M ≤ suc (length L))

    put-length : (L : List Stretch) → OneMore L (put L a b p)
    put-length [] = (omega arith, omega arith)
    put-length (x ∷ xs) = more (touches x a p)
      where
        more : (t : Bool) → OneMore (x ∷ xs) (put_if t x xs a b p)
        more true = (omega arith, omega arith)
        more false = (omega arith, omega arith)

    go : (t : Bool) → OneMore L (push_if t L a b p)
    go true = (omega arith, omega arith)
    go false = put-length L

pub newest-length : (f : Pairs) (m n : ℕ) → m ≤ n → length (newest m f) ≤ length (newest n f)
unfolding newest
newest-length f m n l = le_ind (λ (k : ℕ). length (newest m f) ≤ length (newest k f)) (le_refl (length (newest m f)))
    (λ k c ih. le_trans ih (push-length (newest k f) k k (f k)).0) n l

-- ---- what a list of stretches says of an age: the pair of the first stretch that has it in it

unfoldable pub said : List Stretch → Pairs
said [] k = no_pair
said (x ∷ xs) k = cond (inside x k) x.pair (said xs k)

pub said_in : (x : Stretch) (xs : List Stretch) (k : ℕ) → x.first ≤ k → k ≤ x.last → said (x ∷ xs) k ≡ x.pair
unfolding said
said_in x xs k l h = ap (λ (t : Bool). cond t x.pair (said xs k)) (is_true (inside x k) ((inside-iff x k).1 (l, h)))

pub said-out : (x : Stretch) (xs : List Stretch) (k : ℕ) → ¬ ((x.first ≤ k) × (k ≤ x.last))
    → said (x ∷ xs) k ≡ said xs k
unfolding said
said-out x xs k n = ap (λ (t : Bool). cond t x.pair (said xs k)) (is_false (inside x k) (λ h. n ((inside-iff x k).0 h)))

-- ---- proper lists, the newest first

-- y lies above x, and differs in its pair where it touches x
abbrev pub Next : Stretch → Stretch → Type 0
Next x y = (x.last < y.first) × (suc x.last ≡ y.first → x.pair ≢ y.pair)

-- x does not go on where the stretch before it ended
abbrev pub Apart : Stretch → List Stretch → Type 0
Apart x [] = Unit {0}
Apart x (y ∷ ys) = suc y.last ≡ x.first → y.pair ≢ x.pair

module _ (P : Pair → Type 0) where
  pub record Good (b : ℕ) (x : Stretch) : Type 0 where
    pub pair : P x.pair
    pub below : x.last < b
    pub order : x.first ≤ x.last
    pub some : x.pair.possible ≢ 0

  -- of ages below b
  abbrev pub ProperList : ℕ → List Stretch → Type 0
  ProperList b [] = Unit {0}
  ProperList b (x ∷ xs) = Good b x × Apart x xs × ProperList x.first xs

  pub said-above : (L : List Stretch) (b k : ℕ) → ProperList b L → b ≤ k → said L k ≡ no_pair
  unfolding said
  said-above [] b k h l = refl
  said-above (x ∷ xs) b k h l =
      said-out x xs k (λ i. omega (arith, h.0.below))
      ∙ said-above xs x.first k h.2 (omega (arith, h.0.below, h.0.order))

  pub put-apart : (x : Stretch) (xs : List Stretch) → Apart x xs → put xs x.first x.last x.pair ≡ x ∷ xs
  put-apart x [] h = refl
  put-apart x (y ∷ ys) h = ap (λ (t : Bool). put_if t y ys x.first x.last x.pair)
      (is_false (touches y x.first x.pair) (λ t. let e = (touches-iff y x.first x.pair).0 t in h e.0 e.1))

  -- a proper list is the list of the stretches of what it says
  pub canon : (L : List Stretch) (b : ℕ) → ProperList b L → newest b (said L) ≡ L
  unfolding newest said
  canon [] b h = newest-skip (said []) 0 b (omega arith) (λ k l m. refl)
  canon (x ∷ xs) b h = steps (canon xs x.first h.2)
    where
      f : Pairs
      f = said (x ∷ xs)

      -- above x there is nothing, and below it what xs say
      above : (k : ℕ) → suc x.last ≤ k → f k ≡ no_pair
      above k l =
          said-out x xs k (λ i. omega arith)
          ∙ said-above xs x.first k h.2 (omega (arith, h.0.order))

      below : newest x.first f ≡ newest x.first (said xs)
      below = newest-cong x.first f (said xs) (λ k l. said-out x xs k (λ i. omega arith))

      steps : newest x.first (said xs) ≡ xs → newest b f ≡ x ∷ xs
      steps ih =
          newest-skip f (suc x.last) b h.0.below (λ k l u. ap (λ (p : Pair). p.possible) (above k l))
          ∙ newest-run f x.first x.last x.pair h.0.order (λ k l u. said_in x xs k l u)
          ∙ ap (λ (L : List Stretch). push L x.first x.last x.pair) (below ∙ ih)
          ∙ push-some xs x.first x.last x.pair h.0.some
          ∙ put-apart x xs h.1

  -- ---- the list of f is proper

  proper-le : (L : List Stretch) {a b : ℕ} → a ≤ b → ProperList a L → ProperList b L
  proper-le [] l h = tt
  proper-le (x ∷ xs) l (g, a, h) =
      (record { pair = g.pair; below = omega (arith, g.below); order = g.order; some = g.some }, a, h)

  apart-as : (x z : Stretch) (xs : List Stretch) → x.first ≡ z.first → x.pair ≡ z.pair → Apart x xs → Apart z xs
  apart-as x z [] e p h = tt
  apart-as x z (y ∷ ys) e p h = λ c q. h (c ∙ sym e) (q ∙ sym p)

  put-proper : (L : List Stretch) (a b : ℕ) (p : Pair) → a ≤ b → P p → p.possible ≢ 0 → ProperList a L
      → ProperList (suc b) (put L a b p)
  put-proper [] a b p l o n h = (record { pair = o; below = le_refl (suc b); order = l; some = n }, tt, tt)
  put-proper (x ∷ xs) a b p l o n h = go (touches x a p) refl
    where
      good : (c : ℕ) → c ≤ b → Good (suc b) (stretch c b p)
      good c l = record { pair = o; below = le_refl (suc b); order = l; some = n }

      go : (t : Bool) → touches x a p ≡ t → ProperList (suc b) (put_if t x xs a b p)
      go true e = let k = (touches-iff x a p).0 (subst Is (sym e) tt) in
          let low : x.first ≤ b = omega (arith, h.0.below, h.0.order) in
          (good x.first low, apart-as x (stretch x.first b p) xs refl k.1 h.1, h.2)
      go false e = (good a l, (λ c q. subst Is e ((touches-iff x a p).1 (c, q))), h)

  push-proper : (L : List Stretch) (a b : ℕ) (p : Pair) → a ≤ b → P p → ProperList a L → ProperList (suc b) (push L a b p)
  push-proper L a b p l o h = go (ℕ_discrete p.possible 0)
    where
      go : Dec (p.possible ≡ 0) → ProperList (suc b) (push L a b p)
      go (yes e) = rw (push-none L a b p e) (proper-le L (omega arith) h)
      go (no n) = rw (push-some L a b p n) (put-proper L a b p l o n h)

  pub newest-proper : (n : ℕ) (f : Pairs) → ((k : ℕ) → k < n → P (f k)) → ProperList n (newest n f)
  unfolding newest
  newest-proper zero f o = tt
  newest-proper (suc n) f o = push-proper (newest n f) n n (f n) (le_refl n)
      (o n (omega arith))
      (newest-proper n f (λ k l. o k (omega arith)))

  -- ---- the list of f says f, where a pair with nothing possible is the pair of two empty sets

  put_in : (L : List Stretch) (a b : ℕ) (p : Pair) → ProperList a L → (k : ℕ) → a ≤ k → k ≤ b → said (put L a b p) k ≡ p
  put_in [] a b p h k l u = said_in (stretch a b p) [] k l u
  put_in (x ∷ xs) a b p h k l u = go (touches x a p)
    where
      go : (t : Bool) → said (put_if t x xs a b p) k ≡ p
      go true = said_in (stretch x.first b p) xs k (omega (arith, h.0.below, h.0.order)) u
      go false = said_in (stretch a b p) (x ∷ xs) k l u

  put-below : (L : List Stretch) (a b : ℕ) (p : Pair) → a ≤ b → ProperList a L
      → (k : ℕ) → k < a → said (put L a b p) k ≡ said L k
  put-below [] a b p ab h k l = said-out (stretch a b p) [] k (λ i. omega arith)
  put-below (x ∷ xs) a b p ab h k l = go (touches x a p) refl
    where
      go : (t : Bool) → touches x a p ≡ t → said (put_if t x xs a b p) k ≡ said (x ∷ xs) k
      go false e = said-out (stretch a b p) (x ∷ xs) k (λ i. omega arith)
      go true e = low ((touches-iff x a p).0 (subst Is (sym e) tt)) (dec_le x.first k)
        where
          y : Stretch
          y = stretch x.first b p

          low : (suc x.last ≡ a) × (x.pair ≡ p) → Dec (x.first ≤ k) → said (y ∷ xs) k ≡ said (x ∷ xs) k
          low t (yes c) = said_in y xs k c (omega arith) ∙ sym t.1 ∙ sym (said_in x xs k c (omega arith))
          low t (no c) = said-out y xs k (λ i. c i.0) ∙ sym (said-out x xs k (λ i. c i.0))

  module _ (empty : (p : Pair) → P p → p.possible ≡ 0 → p ≡ no_pair) where
    pub said-newest : (n : ℕ) (f : Pairs) → ((k : ℕ) → k < n → P (f k)) → (k : ℕ) → k < n → said (newest n f) k ≡ f k
    unfolding newest
    said-newest zero f h k l = absurd (let z : ⊥ = omega arith in z)
    said-newest (suc n) f h k l = go (ℕ_discrete (f n).possible 0) (ℕ_discrete k n)
        (said-newest n f (λ j b. h j (omega arith)) k)
      where
        L : List Stretch
        L = newest n f

        proper : ProperList n L
        proper = newest-proper n f (λ j b. h j (omega arith))

        go : Dec ((f n).possible ≡ 0) → Dec (k ≡ n) → (k < n → said L k ≡ f k) → said (push L n n (f n)) k ≡ f k
        go (yes e) (yes d) ih = rw (push-none L n n (f n) e) (
            said-above L n k proper (omega arith)
            ∙ sym (empty (f n) (h n (omega arith)) e)
            ∙ ap f (sym d))
        go (yes e) (no d) ih = rw (push-none L n n (f n) e) (ih (omega arith))
        go (no c) (yes d) ih = rw (push-some L n n (f n) c) (
            put_in L n n (f n) proper k (omega arith) (omega arith)
            ∙ ap f (sym d))
        go (no c) (no d) ih = rw (push-some L n n (f n) c) (
            put-below L n n (f n) (le_refl n) proper k (omega arith)
            ∙ ih (omega arith))

-- ---- where nothing is known of a pair

abbrev pub Any : Pair → Type 0
Any p = Unit {0}

pub newest-any : (n : ℕ) (f : Pairs) → ProperList Any n (newest n f)
newest-any n f = newest-proper Any n f (λ k l. tt)
