-- A record as code goes over it: its stretches stand in its places (`place_of`, `stretches_settle`), and say the pair of an age
-- one by one (`pair_in-next`, `pairs_at-high`, `pairs_at-in`). Neighbours (`touches-low`, `touches-apart`, `touches-next`,
-- `follows-apart`, `follows_next`; and as code asks, `touches-not`, `touches-so`, `follows-touches`). Assumes nothing.
use Prim.Native.Nat.{ℕ, suc, ◌+◌, ◌≤◌, ◌<◌, min}
use mathlib.Core.Path.{◌≡◌, refl, sym, ap, ◌∙◌}
use mathlib.Core.Logic.{◌≢◌, ◌⊎◌, inl, inr}
use mathlib.Core.List.{List}
use mathlib.Core.Bool.{Bool, true, false, cond, not, true≢false}
use denote.Ref.{Bor}
use lib.Dec.{eqb}
use lib.ListN.{get_or, take}
use Rattle.std.proofs.lemmas.Bool.{eqb-true}
use Rattle.std.proofs.lemmas.Bool.Decides.{eqb_tells}
use Rattle.std.proofs.lemmas.List.{get_or-take}
use native.Mathlib.Numerals.{add-one}
use native.Mathlib.Decide.{dec_le}
use native.Mathlib.Omega.{arith}
use borrow.Author.Tests.{lt-leb, le-leb, lt-ltb, eq-eqb, ne_eqb}
use Rattle.base.proofs.Rules.{also, not_also}
use Rattle.record.specs.declared.Pair.{Pair}
use Rattle.record.specs.declared.Stretch.{Stretch}
use Rattle.record.specs.declared.Record.{Record}
use Rattle.record.specs.Records.{blank, place, inside, pair_in, pairs_at, followsb}
use Rattle.record.specs.Stretches.{same_pair, touches}

-- ---- the stretches, place by place

-- the stretch that a walk comes to as the i-th stands in place i
pub place_of : (r : Record) (items : List Stretch) (i : ℕ) → items ≡ take (min r.count 64) r.places → i < min r.count 64
    → (i < r.count) × (get_or items i blank ≡ place r i)
place_of r items i e l = (omega arith, rw e (get_or-take (min r.count 64) r.places i blank l))

-- two slices that have them have the same places; where a lent slice lies, nobody can ask
pub stretches_settle : (r : Record) (x y : Bor (List Stretch)) → x.now ≡ take (min r.count 64) r.places
    → y.now ≡ take (min r.count 64) r.places → x.now ≡ y.now
stretches_settle r x y e f = e ∙ sym f

-- ---- the pair of an age, place by place

-- x stands in place i among the first n
pub pair_in-next : (l items : List Stretch) (n i k : ℕ) → items ≡ take n l → i < n
    → pair_in l (i + 1) k ≡ cond (inside (get_or items i blank) k) (get_or items i blank).pair (pair_in l i k)
unfolding pair_in
pair_in-next l items n i k e h = rw (add-one i, e, get_or-take n l i blank h) refl

-- above H, and within the first n places
module _ (H : ℕ) (r : Record) (k : ℕ) where
  pub pairs_at-high : H < k → r.above ≡ pairs_at H r k
  unfolding pairs_at
  pairs_at-high l = rw (lt-leb k H l)

  pub pairs_at-in : (n : ℕ) (p : Pair) → k ≤ H → n ≡ min r.count 64 → p ≡ pair_in r.places n k → p ≡ pairs_at H r k
  unfolding pairs_at
  pairs_at-in n p l e h = rw (le-leb k H l, ← e) h

-- ---- two neighbours, with ages between them and with none

module _ (x : Stretch) (a : ℕ) (p : Pair) where
  apart : suc x.last ≢ a → false ≡ touches x a p
  unfolding touches
  apart d = not_also _ _ _ (ne_eqb (suc x.last) a d) refl

  pub touches-low : a ≤ x.last → false ≡ touches x a p
  touches-low l = apart (λ e. omega arith)

  pub touches-apart : x.last + 1 < a → false ≡ touches x a p
  touches-apart l = apart (λ e. omega arith)

  pub touches-next : (v : Bool) → x.last < a → a ≤ x.last + 1 → v ≡ same_pair x.pair p → v ≡ touches x a p
  unfolding touches
  touches-next v l m e = also (eqb (suc x.last) a) (same_pair x.pair p) v (eq-eqb (suc x.last) a (omega arith)) e

  -- as code asks it, once a lies above: v is whether a is the next age
  pub touches-not : (v : Bool) → x.last < a → v ≡ eqb (x.last + 1) a → v ≡ false → v ≡ touches x a p
  touches-not v l e z = go (eqb_tells (x.last + 1) a)
    where
      go : ((eqb (x.last + 1) a ≡ true) × (x.last + 1 ≡ a)) ⊎ ((eqb (x.last + 1) a ≡ false) × (x.last + 1 ≢ a)) → v ≡ touches x a p
      go (inl t) = absurd (true≢false (sym t.0 ∙ sym e ∙ z))
      go (inr f) = z ∙ touches-apart (omega (arith, f.1))

  pub touches-so : (v w : Bool) → x.last < a → v ≡ eqb (x.last + 1) a → v ≡ true → w ≡ same_pair x.pair p → w ≡ touches x a p
  touches-so v w l e z h = let next : x.last + 1 ≡ a = eqb-true (x.last + 1) a (sym e ∙ z) in
      touches-next w l (omega arith) h

module _ (x y : Stretch) where
  pub follows-apart : x.last + 1 < y.first → true ≡ followsb x y
  unfolding followsb
  follows-apart l = rw (lt-ltb x.last y.first (omega arith), ne_eqb (suc x.last) y.first (λ e. omega arith))

  pub follows_next : (f : Bool) → x.last < y.first → y.first ≤ x.last + 1 → f ≡ same_pair x.pair y.pair
      → not f ≡ followsb x y
  unfolding followsb
  follows_next f l m e =
      rw (lt-ltb x.last y.first l, eq-eqb (suc x.last) y.first (omega arith)) (ap not e)

  -- as code asks it: whether x touches y, once y lies above
  pub follows-touches : (t : Bool) → x.last < y.first → t ≡ touches x y.first y.pair → not t ≡ followsb x y
  follows-touches t l e = go (dec_le y.first (x.last + 1))
    where
      go : Dec (y.first ≤ x.last + 1) → not t ≡ followsb x y
      go (yes m) = rw e (follows_next _ l m (sym (touches-next x y.first y.pair _ l m refl)))
      go (no n) = rw (e, ← touches-apart x y.first y.pair (omega arith)) (follows-apart (omega arith))
