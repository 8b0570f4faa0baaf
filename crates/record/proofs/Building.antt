-- What a push means: a record that holds the stretches L within its room holds, after it, `push L ..` (`push-held`); more than
-- the room takes are told by its count; once all ages 0 to H are pushed, it is the record that holds their pairs (`built-fits`),
-- or tells that they do not fit (`built-over`). Assumes nothing.
use Prim.Native.Nat.{ℕ, suc, ◌-◌, ◌≤◌, ◌<◌}
use mathlib.Core.Path.{◌≡◌, refl, sym, ap, ◌∙◌, subst}
use mathlib.Core.Logic.{◌↔◌}
use mathlib.Core.List.{List, [], ◌∷◌, ◌++◌, reverse, reverse_aux-eq}
use mathlib.Core.Bool.{Bool, true, false}
use native.Mathlib.Decide.{dec_le}
use native.Mathlib.Numerals.{add-one}
use native.Mathlib.Omega.{arith}
use lib.Dec.{T as Is, eqb, leb, ltb}
use lib.ListN.{length, get_or, replicate, set, length-reverse}
use lib.Seq.{get_or_at, set_at}
use borrow.Author.Tests.{leb-true, leb-false, ne_eqb, le-ltb, lt-leb, le-leb}
use Rattle.record.specs.declared.Pair.{Pair}
use Rattle.record.specs.declared.Stretch.{Stretch}
use Rattle.record.specs.declared.Record.{Record}
use Rattle.record.specs.Pairs.{Pairs}
use Rattle.record.specs.Stretches.{stretch, touches, put_if, put, push_if, push, newest, stretches_of}
use Rattle.record.specs.Records.{blank, record_of}
use Rattle.record.specs.Building.{empty_record, overfull, held_in, built_of, appended, joined, pushed}
use Rattle.record.proofs.Stretches.{touches-iff, push-length}

reverse_front : (x : Stretch) (L M : List Stretch) → reverse (x ∷ L) ++ M ≡ reverse L ++ x ∷ M
reverse_front x L M = sym (reverse_aux-eq (x ∷ L) M) ∙ reverse_aux-eq L (x ∷ M)

-- the 64 places that hold the stretches L, the newest first
abbrev places_of : List Stretch → List Stretch
places_of L = reverse L ++ replicate (64 - length L) blank

-- the last place in use is the newest stretch's, and the first that is not takes the next
module _ (x : Stretch) (L : List Stretch) where
  abbrev spare : List Stretch
  spare = replicate (64 - length (x ∷ L)) blank

  last_at : get_or (places_of (x ∷ L)) (length (x ∷ L) - 1) blank ≡ x
  last_at = rw (reverse_front x L) (get_or_at (reverse L) x spare blank (length (x ∷ L) - 1) (omega (arith, length-reverse L)))

  set_last : (y : Stretch) → set (places_of (x ∷ L)) (length (x ∷ L) - 1) y ≡ places_of (y ∷ L)
  set_last y = rw (reverse_front x L, reverse_front y L)
      (set_at (reverse L) x spare y (length (x ∷ L) - 1) (omega (arith, length-reverse L)))

  set_next : length L < 64 → set (places_of L) (length L) x ≡ places_of (x ∷ L)
  set_next l = let e : 64 - length L ≡ suc (64 - length (x ∷ L)) = omega arith in
      rw (e, reverse_front x L) (set_at (reverse L) blank spare x (length L) (length-reverse L))

module _ (room : ℕ) (above : Pair) where
  -- the record that holds L, where they fit
  abbrev holding : List Stretch → Record
  holding L = record { room = room; count = length L; places = places_of L; above = above }

  held_fits : (L : List Stretch) → length L ≤ room → held_in room above L ≡ holding L
  unfolding held_in
  held_fits L l = rw (le-leb (length L) room l)

  held_large : (L : List Stretch) → room < length L → held_in room above L ≡ overfull room above
  unfolding held_in
  held_large L l = rw (lt-leb (length L) room l)

  append_held : (L : List Stretch) (x : Stretch) → room ≤ 64 → length L ≤ room
      → appended (holding L) x ≡ held_in room above (x ∷ L)
  unfolding appended
  append_held L x small l = go (leb room (length L)) refl
    where
      go : (t : Bool) → leb room (length L) ≡ t → appended (holding L) x ≡ held_in room above (x ∷ L)
      go true e = cc (held_large (x ∷ L) (omega (arith, leb-true room (length L) e)))
      go false e = let f = leb-false room (length L) e in
          cc (lt-leb 64 (length L) (omega arith), add-one (length L), set_next x L (omega arith), held_fits (x ∷ L) f)

  -- a record that holds stretches, x the newest
  module _ (x : Stretch) (L : List Stretch) (small : room ≤ 64) (l : length (x ∷ L) ≤ room) where
    not_empty : eqb (length (x ∷ L)) 0 ≡ false
    not_empty = ne_eqb (length (x ∷ L)) 0 (λ e. omega arith)

    not_over : ltb 64 (length (x ∷ L)) ≡ false
    not_over = le-ltb 64 (length (x ∷ L)) (omega arith)

    join_held : (b : ℕ) → joined (holding (x ∷ L)) b ≡ held_in room above (stretch x.first b x.pair ∷ L)
    unfolding joined
    join_held b = let y = stretch x.first b x.pair in
        cc (not_empty, not_over, last_at x L, set_last x L y, held_fits (y ∷ L) l)

    module _ (a b : ℕ) (p : Pair) (possible : eqb p.possible 0 ≡ false) where
      push-on : touches x a p ≡ true → pushed (holding (x ∷ L)) a b p ≡ held_in room above (stretch x.first b p ∷ L)
      unfolding pushed
      push-on t = let same = ((touches-iff x a p).0 (subst Is (sym t) tt)).1 in
          cc (not_empty, not_over, last_at x L, join_held b)

      push-new : touches x a p ≡ false → pushed (holding (x ∷ L)) a b p ≡ held_in room above (stretch a b p ∷ x ∷ L)
      unfolding pushed
      push-new t = cc (not_empty, not_over, last_at x L, append_held (x ∷ L) (stretch a b p) small l)

  -- where something is possible
  put-held : (L : List Stretch) (a b : ℕ) (p : Pair) → room ≤ 64 → length L ≤ room → eqb p.possible 0 ≡ false
      → pushed (holding L) a b p ≡ held_in room above (put L a b p)
  unfolding pushed
  put-held [] a b p small l n = cc (append_held [] (stretch a b p) small l)
  put-held (x ∷ xs) a b p small l n = go (touches x a p) refl
    where
      go : (t : Bool) → touches x a p ≡ t → pushed (holding (x ∷ xs)) a b p ≡ held_in room above (put_if t x xs a b p)
      go true e = push-on x xs small l a b p n e
      go false e = push-new x xs small l a b p n e

  push-fits : (L : List Stretch) (a b : ℕ) (p : Pair) → room ≤ 64 → length L ≤ room
      → pushed (holding L) a b p ≡ held_in room above (push L a b p)
  unfolding pushed push
  push-fits L a b p small l = go (eqb p.possible 0) refl
    where
      go : (t : Bool) → eqb p.possible 0 ≡ t → pushed (holding L) a b p ≡ held_in room above (push_if t L a b p)
      go true e = cc (held_fits L l)
      go false e = put-held L a b p small l e

  push-large : (a b : ℕ) (p : Pair) → pushed (overfull room above) a b p ≡ overfull room above
  unfolding pushed
  push-large a b p = go (eqb p.possible 0) refl
    where
      go : (t : Bool) → eqb p.possible 0 ≡ t → pushed (overfull room above) a b p ≡ overfull room above
      go true e = rw e
      go false e = rw e

pub empty_held : (room : ℕ) (above : Pair) → empty_record room above ≡ held_in room above []
empty_held room above = sym (held_fits room above [] (omega arith))

-- a push to a record is a push to the stretches that it holds, whatever their number
pub push-held : (room : ℕ) (above : Pair) (L : List Stretch) (a b : ℕ) (p : Pair) → room ≤ 64
    → pushed (held_in room above L) a b p ≡ held_in room above (push L a b p)
push-held room above L a b p small = go (dec_le (length L) room)
  where
    go : Dec (length L ≤ room) → pushed (held_in room above L) a b p ≡ held_in room above (push L a b p)
    go (yes l) = ap (λ (r : Record). pushed r a b p) (held_fits room above L l) ∙ push-fits room above L a b p small l
    go (no n) =
        ap (λ (r : Record). pushed r a b p) (held_large room above L (omega arith))
        ∙ push-large room above a b p
        ∙ sym (held_large room above (push L a b p) (omega (arith, (push-length L a b p).0)))

-- more stretches than the room takes are told by the count
held_over : (room : ℕ) (above : Pair) (L : List Stretch) → room ≤ 64
    → (room < (held_in room above L).count) ↔ (room < length L)
held_over room above L small = go (dec_le (length L) room)
  where
    go : Dec (length L ≤ room) → (room < (held_in room above L).count) ↔ (room < length L)
    go (yes l) = rw (held_fits room above L l) ((λ h. h), λ h. h)
    go (no n) = rw (held_large room above L (omega arith)) ((λ h. omega arith), λ h. omega arith)

-- all ages 0 to H pushed: within the room it is the record that holds f, and the count tells where it is not
module _ (room H : ℕ) (f : Pairs) where
  pub built-fits : length (stretches_of H f) ≤ room → built_of room H f ≡ record_of room H f
  unfolding record_of
  built-fits l = let e = length-reverse (newest (suc H) f) in
      cc (held_fits room (f (suc H)) (newest (suc H) f) (omega (arith, e, l)), e)

  pub built-over : room ≤ 64 → (room < (built_of room H f).count) ↔ (room < length (stretches_of H f))
  built-over small = rw (length-reverse (newest (suc H) f)) (held_over room (f (suc H)) (newest (suc H) f) small)
