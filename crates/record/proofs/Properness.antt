-- The test of a record says exactly whether it is proper (`proper-iff`), clause by clause. Assumes nothing.
use Prim.Native.Nat.{ℕ, zero, suc, ◌-◌, ◌≤◌, ◌<◌}
use mathlib.Core.Path.{◌≡◌, refl, ap, subst}
use mathlib.Core.Logic.Iff
use mathlib.Core.Logic.{◌↔◌, ◌⊎◌, inl, inr, ◌≢◌}
use mathlib.Core.Bool.{Bool, true, false, ◌&&◌, ◌||◌, cond, not}
use native.Mathlib.Decide.{dec_lt}
use native.Mathlib.Omega.{arith}
use lib.Bits.{bit_or}
use lib.Dec.{T as Is, eqb, leb, ltb}
use Rattle.base.specs.Masks.{Part, past_states, all}
use Rattle.base.proofs.Tests.{eqb_iff, leb_iff, ltb_iff, not_iff, and_iff, or_iff, all-iff, ne_iff}
use Rattle.base.proofs.Checks.{within}
use Rattle.base.proofs.Masks.{part-or}
use Rattle.record.specs.declared.Pair.{Pair}
use Rattle.record.specs.declared.Stretch.{Stretch}
use Rattle.record.specs.declared.Record.{Record}
use Rattle.record.specs.Pairs.{no_pair}
use Rattle.record.specs.Stretches.{same_pair}
use Rattle.record.specs.Records.{blank, place, PairOk, StretchOk, Proper, pair_okb, stretch_okb, followsb, blankb, place_okb, properb}
use Rattle.record.proofs.Stretches.{same_pair-iff, Next}

pub pair_ok-iff : (n : ℕ) (p : Pair) → Is (pair_okb n p) ↔ PairOk n p
unfolding pair_okb
pair_ok-iff n p = Iff.trans
    (and_iff (eqb (bit_or s m) m) (not (past_states n m)) part (Iff.trans (not_iff (past_states n m)) (within n m).iff))
    ((λ h. record { part = h.0; small = h.1 }), λ h. (h.part, h.small))
  where
    s : ℕ
    s = p.sure

    m : ℕ
    m = p.possible

    part : Is (eqb (bit_or s m) m) ↔ Part s m
    part = Iff.trans (eqb_iff (bit_or s m) m) (Iff.symm (part-or s m))

pub stretch_ok-iff : (H n : ℕ) (x : Stretch) → Is (stretch_okb H n x) ↔ StretchOk H n x
unfolding stretch_okb
stretch_ok-iff H n x = Iff.trans (and_iff (withinb && orderb && someb) okb (and_iff (withinb && orderb) someb aged some) ok) (
  (λ h. record { pair = h.1; within = h.0.0.0; order = h.0.0.1; some = h.0.1 }),
  λ h. (((h.within, h.order), h.some), h.pair),
)
  where
    withinb : Bool
    withinb = leb x.last H

    orderb : Bool
    orderb = leb x.first x.last

    someb : Bool
    someb = not (eqb x.pair.possible 0)

    okb : Bool
    okb = pair_okb n x.pair

    aged : Is (withinb && orderb) ↔ ((x.last ≤ H) × (x.first ≤ x.last))
    aged = and_iff withinb orderb (leb_iff x.last H) (leb_iff x.first x.last)

    some : Is someb ↔ (x.pair.possible ≢ 0)
    some = ne_iff x.pair.possible 0

    ok : Is okb ↔ PairOk n x.pair
    ok = pair_ok-iff n x.pair

pub follows-iff : (x y : Stretch) → Is (followsb x y) ↔ Next x y
unfolding followsb
follows-iff x y = and_iff (ltb x.last y.first) (not (touch && same)) (ltb_iff x.last y.first) differ
  where
    touch : Bool
    touch = eqb (suc x.last) y.first

    same : Bool
    same = same_pair x.pair y.pair

    both : Is (touch && same) ↔ ((suc x.last ≡ y.first) × (x.pair ≡ y.pair))
    both = and_iff touch same (eqb_iff (suc x.last) y.first) (same_pair-iff x.pair y.pair)

    differ : Is (not (touch && same)) ↔ (suc x.last ≡ y.first → x.pair ≢ y.pair)
    differ = Iff.trans (Iff.trans (not_iff (touch && same)) (Iff.not both))
        ((λ h e p. h (e, p)), λ h k. h k.0 k.1)

pub blank-iff : (x : Stretch) → Is (blankb x) ↔ (x ≡ blank)
unfolding blankb
blank-iff x = Iff.trans zeros (
  (λ h. λ i. record { first = h.0.0 i; last = h.0.1 i; pair = h.1 i }),
  λ e. ((ap (λ (s : Stretch). s.first) e, ap (λ (s : Stretch). s.last) e), ap (λ (s : Stretch). s.pair) e),
)
  where
    ages : Is (eqb x.first 0 && eqb x.last 0) ↔ ((x.first ≡ 0) × (x.last ≡ 0))
    ages = and_iff (eqb x.first 0) (eqb x.last 0) (eqb_iff x.first 0) (eqb_iff x.last 0)

    zeros : Is (blankb x) ↔ (((x.first ≡ 0) × (x.last ≡ 0)) × (x.pair ≡ no_pair))
    zeros = and_iff (eqb x.first 0 && eqb x.last 0) (same_pair x.pair no_pair) ages (same_pair-iff x.pair no_pair)

cond_iff : (b x y : Bool) → Is (cond b x y) ↔ ((Is b → Is x) × (¬ Is b → Is y))
cond_iff true x y = ((λ h. ((λ t. h), λ n. absurd (n tt))), λ h. h.0 tt)
cond_iff false x y = ((λ h. ((λ t. absurd t), λ n. h)), λ h. h.1 (λ t. t))

module _ (H n : ℕ) (r : Record) where
  -- what holds of place i: in use, and not
  abbrev Used : ℕ → Type 0
  Used i = StretchOk H n (place r i) × ((j : ℕ) → suc j ≡ i → Next (place r j) (place r i))

  abbrev PlaceOk : ℕ → Type 0
  PlaceOk i = (i < r.count → Used i) × (r.count ≤ i → place r i ≡ blank)

  abbrev usedb : ℕ → Bool
  usedb i = stretch_okb H n (place r i) && (eqb i 0 || followsb (place r (i - 1)) (place r i))

  used-iff : (i : ℕ) → Is (usedb i) ↔ Used i
  used-iff i = and_iff (stretch_okb H n (place r i)) (eqb i 0 || follows)
      (stretch_ok-iff H n (place r i)) (Iff.trans first_or_next (to, from i))
    where
      follows : Bool
      follows = followsb (place r (i - 1)) (place r i)

      first_or_next : Is (eqb i 0 || follows) ↔ ((i ≡ 0) ⊎ Next (place r (i - 1)) (place r i))
      first_or_next = or_iff (eqb i 0) follows (eqb_iff i 0) (follows-iff (place r (i - 1)) (place r i))

      to : (i ≡ 0) ⊎ Next (place r (i - 1)) (place r i) → (j : ℕ) → suc j ≡ i → Next (place r j) (place r i)
      to (inl z) j e = absurd (let c : ⊥ = omega arith in c)
      to (inr k) j e = subst (λ (m : ℕ). Next (place r m) (place r i)) (let d : i - 1 ≡ j = omega arith in d) k

      from : (i : ℕ) → ((j : ℕ) → suc j ≡ i → Next (place r j) (place r i)) → (i ≡ 0) ⊎ Next (place r (i - 1)) (place r i)
      from zero h = inl refl
      from (suc j) h = let d : j ≡ suc j - 1 = omega arith in
          inr (subst (λ (m : ℕ). Next (place r m) (place r (suc j))) d (h j refl))

  pub place_ok_iff : (i : ℕ) → Is (place_okb H n r i) ↔ PlaceOk i
  unfolding place_okb
  place_ok_iff i = Iff.trans (cond_iff (ltb i r.count) (usedb i) (blankb (place r i))) (
    (λ h. ((λ l. (used-iff i).0 (h.0 (less.1 l))), λ l. (blank-iff (place r i)).0 (h.1 (not_less.1 l)))),
    λ h. ((λ t. (used-iff i).1 (h.0 (less.0 t))), λ k. (blank-iff (place r i)).1 (h.1 (not_less.0 k))),
  )
    where
      less : Is (ltb i r.count) ↔ (i < r.count)
      less = ltb_iff i r.count

      not_less : (¬ Is (ltb i r.count)) ↔ (r.count ≤ i)
      not_less = ((λ k. go k (dec_lt i r.count)), λ l t. omega (arith, less.0 t))
        where
          go : ¬ Is (ltb i r.count) → Dec (i < r.count) → r.count ≤ i
          go k (yes l) = absurd (k (less.1 l))
          go k (no d) = omega arith

  pub proper-iff : Is (properb H n r) ↔ Proper H n r
  unfolding properb
  proper-iff = Iff.trans (and_iff (roomb && fitsb && placesb) (pair_okb n r.above) places (pair_ok-iff n r.above)) (to, from)
    where
      roomb : Bool
      roomb = leb 1 r.room && leb r.room 64

      fitsb : Bool
      fitsb = leb r.count r.room

      placesb : Bool
      placesb = all 64 (place_okb H n r)

      Room : Type 0
      Room = (1 ≤ r.room) × (r.room ≤ 64)

      Places : Type 0
      Places = (i : ℕ) → i < 64 → Is (place_okb H n r i)

      Clauses : Type 0
      Clauses = ((Room × (r.count ≤ r.room)) × Places) × PairOk n r.above

      room : Is roomb ↔ Room
      room = and_iff (leb 1 r.room) (leb r.room 64) (leb_iff 1 r.room) (leb_iff r.room 64)

      fits : Is (roomb && fitsb) ↔ (Room × (r.count ≤ r.room))
      fits = and_iff roomb fitsb room (leb_iff r.count r.room)

      places : Is (roomb && fitsb && placesb) ↔ ((Room × (r.count ≤ r.room)) × Places)
      places = and_iff (roomb && fitsb) placesb fits (all-iff 64 (place_okb H n r))

      to : Clauses → Proper H n r
      to h = record {
        room_low = h.0.0.0.0;
        room_high = h.0.0.0.1;
        fits = h.0.0.1;
        each = λ i l. (in_use i l).0;
        rising = λ i l. ((in_use (suc i) l).1 i refl).0;
        differ = λ i l. ((in_use (suc i) l).1 i refl).1;
        above = h.1;
        unused = λ i l b. ((place_ok_iff i).0 (h.0.1 i b)).1 l;
      }
        where
          in_use : (i : ℕ) → i < r.count → Used i
          in_use i l = ((place_ok_iff i).0 (h.0.1 i (omega (arith, h.0.0.0.1, h.0.0.1)))).0 l

      from : Proper H n r → Clauses
      from p = ((((p.room_low, p.room_high), p.fits), each), p.above)
        where
          before : (i : ℕ) → i < r.count → (j : ℕ) → suc j ≡ i → Next (place r j) (place r i)
          before i l j e = subst (λ (m : ℕ). Next (place r j) (place r m)) e
              (p.rising j (omega arith), p.differ j (omega arith))

          each : Places
          each i b = (place_ok_iff i).1 ((λ l. (p.each i l, before i l)), λ l. p.unused i l b)
