-- A letter over the stretches of a record. At age 0: the pieces of a stretch (`led_on`), the stretches and the ages above H
-- make `led_back` (`led-held`), and with what is kept there and the standing states the pair of age 0 (`newborn_pair`). At
-- the ages above: a piece is kept at once (`kept_on`), and a stretch behind those before it (`kept_next`), up to H
-- (`kept-all`). Assumes nothing.
use Prim.Native.Nat.{ℕ, zero, suc, ◌+◌, ◌≤◌, ◌<◌, max, min}
use mathlib.Core.Path.{◌≡◌, refl, sym, ap, ap₂, ◌∙◌, subst}
use mathlib.Core.List.{List, []}
use mathlib.Core.Bool.{Bool, true, false, cond}
use native.Mathlib.Decide.{dec_le}
use native.Mathlib.Numerals.{add-one}
use native.Mathlib.Omega.{arith}
use lib.Bits.{bit_or, or_zero_r}
use lib.Dec.{leb}
use lib.ListN.{get_or, take}
use borrow.Author.Tests.{le-leb, lt-leb, ne_eqb}
use Rattle.base.specs.Masks.{union}
use Rattle.base.proofs.Masks.{ext_has, has-or}
use Rattle.meaning.specs.Tables.{Table, table_of, horizon}
use Rattle.meaning.specs.Runs.{letter}
use Rattle.meaning.specs.Ages.{ages, image, fresh_at, letter_at, step_at}
use Rattle.record.specs.declared.Pair.{Pair}
use Rattle.record.specs.declared.Stretch.{Stretch}
use Rattle.record.specs.declared.Record.{Record}
use Rattle.record.specs.Pairs.{Pairs, no_pair, both, together, step_pairs}
use Rattle.record.specs.Stretches.{newest}
use Rattle.record.specs.Records.{blank, place, pairs_at, over_ages, Proper}
use Rattle.record.specs.Building.{empty_record, held_in, pushed}
use Rattle.record.proofs.Stretches.{pair_ext, newest-run, newest-skip}
use Rattle.record.proofs.Records.{pairs_at-above}
use Rattle.record.proofs.Together.{side, side-together, together-run, together-none}
use Rattle.record.proofs.Places.{pairs-in, pairs-between, together-held}
use Rattle.record.proofs.Building.{empty_held, push-held}
use Rattle.known.specs.declared.Known.{Known as Watch}
use Rattle.known.proofs.Laws.{known_of, known-place}
use Rattle.record.proofs.Asked.{place_of}
use Rattle.image.specs.declared.Piece.{Piece}
use Rattle.image.specs.Images.{image_pair, until_of, up_to, piece_of}
use Rattle.image.proofs.Laws.{until_within, image-piece, image_pair-none}
use Rattle.letters.specs.Letters.{led_back, standing_pair, led_back_in, KeptOn}
use Rattle.letters.specs.declared.Pieces.{Pieces}
use Rattle.letters.specs.Pieces.{GivesFirst}
use Rattle.letters.proofs.Walks.{Walked, piece_next, walk_begun, walk_on, walk_end}

-- ---- age 0, from the ages of a stretch

-- pairs as one, however they are grouped
or_assoc : (a b c : ℕ) → bit_or (bit_or a b) c ≡ bit_or a (bit_or b c)
or_assoc a b c = ext_has _ _ (λ i. (λ h. grind (arith, has-or), λ h. grind (arith, has-or)))

both-assoc : (p q r : Pair) → both (both p q) r ≡ both p (both q r)
both-assoc p q r = pair_ext _ _ (or_assoc p.sure q.sure r.sure) (or_assoc p.possible q.possible r.possible)

-- where the resetting lines lead from age k, if the stretch has begun
abbrev pub led_back_at : Table → ℕ → Stretch → ℕ → Pair
led_back_at T a x k = cond (leb x.first k) (image_pair T true a k x.pair) no_pair

module _ (T : Table) (a : ℕ) (x : Stretch) where
  pub led-none : together x.first (led_back_at T a x) ≡ no_pair
  led-none = together-none (led_back_at T a x) x.first (λ k l. rw (lt-leb x.first k l))

  -- the ages of a piece at once
  pub led-piece : (k : ℕ) (q : Piece) → x.first ≤ k → k ≤ x.last → q ≡ piece_of T true a k x.last x.pair
      → both (together k (led_back_at T a x)) q.led ≡ together (suc q.end) (led_back_at T a x)
  led-piece k q low high e =
      ap (λ (q : Piece). both (together k (led_back_at T a x)) q.led) e
      ∙ sym (together-run (led_back_at T a x) k q.end _ (until_within T true a k x.last q.end end high).0 same)
    where
      end : q.end ≡ until_of T true a k x.last
      end = ap (λ (q : Piece). q.end) e

      same : (j : ℕ) → k ≤ j → j ≤ q.end → led_back_at T a x j ≡ image_pair T true a k x.pair
      same j l u = rw (le-leb x.first j (omega arith))
          (image-piece T true a k x.last x.pair j l (subst (λ (n : ℕ). j ≤ n) end u))

-- the pieces of s that come before those of t are done, and where they lead to is in `out`, with what was there before
pub record LedBack (s t : Pieces) (before out : Pair) : Type 0 where
  pub walked : Walked s t
  pub led : out ≡ both before (together t.rest.first (led_back_at (table_of s.table.now.bytes.now) s.letter s.rest))

pub led_begun : (s : Pieces) (out : Pair) → s.rest.first ≤ s.rest.last → LedBack s s out out
led_begun s out l =
    record {
      walked = walk_begun s (omega arith);
      led = rw (led-none (table_of s.table.now.bytes.now) s.letter s.rest)
          (sym (pair_ext _ _ (or_zero_r out.sure) (or_zero_r out.possible)));
    }

pub led_on : (s t u : Pieces) (x : Stretch) (before out next : Pair) → s.reset ≡ true → LedBack s t before out
    → GivesFirst t x u → next ≡ both out x.pair → LedBack s u before next
led_on s t u x before out next back w g e =
    let k = t.rest.first in
    let T = table_of s.table.now.bytes.now in
    record {
      walked = walk_on s t u x w.walked g;
      led =
          e ∙ ap (λ (p : Pair). both p x.pair) w.led
          ∙ both-assoc before (together k (led_back_at T s.letter s.rest)) x.pair
          ∙ ap (both before) (led-piece T s.letter s.rest k (up_to x.last x.pair) w.walked.low
          (rw w.walked.same.last at g.some) (rw back at (piece_next s t u x w.walked g))
          ∙ ap (λ n. together n (led_back_at T s.letter s.rest)) (sym g.next));
    }

pub led_end : (s t : Pieces) (before out : Pair) → LedBack s t before out → t.rest.last < t.rest.first
    → out ≡ both before (led_back_in (table_of s.table.now.bytes.now) s.letter s.rest)
unfolding led_back_in over_ages
led_end s t before out w l =
    w.led
    ∙ ap (λ n. both before (together n (led_back_at (table_of s.table.now.bytes.now) s.letter s.rest))) (walk_end s t w.walked l)

-- ---- the stretches of a record, as code goes over them

-- what a watch of the code keeps, and so what is known of its places in use
module _ (w : Watch) where
  module _ (items : List Stretch) (e : items ≡ take (min w.held.count 64) w.held.places) (i : ℕ) (l : i < min w.held.count 64) where
    pub place_at : get_or items i blank ≡ place w.held i
    place_at = (place_of w.held items i e l).1

    pub place_fits : ((get_or items i blank).first ≤ (get_or items i blank).last) × ((get_or items i blank).last < 4294967295)
    place_fits = known-place _ _ _ (known_of w) i _ (omega arith) place_at

-- ---- age 0, from the whole record

module _ (T : Table) (a : ℕ) (f : Pairs) where
  -- what is kept at age 0, and with it what is led back there and the standing states
  pub newborn_pair : (young standing kept led fresh v : Pair) → young ≡ f 0 → standing ≡ standing_pair T
      → kept ≡ image_pair T false a 0 young → led ≡ led_back T a f → fresh ≡ both led standing → v ≡ both kept fresh
      → v ≡ step_pairs T (letter a) f 0
  unfolding step_pairs step_at letter_at fresh_at led_back
  newborn_pair young standing kept led fresh v y s k l b e =
      e
      ∙ ap₂ both (k ∙ ap (image_pair T false a 0) y) (b ∙ ap₂ both l s)
      ∙ pair_ext _ _ (one true (f 0).sure) (one false (f 0).possible)
    where
      back : ℕ → Pair
      back u = image_pair T true a u (f u)

      one : (x : Bool) (m : ℕ) → bit_or (image T false a 0 m) (bit_or (side x (together (ages (horizon T)) back)) T.standing)
          ≡ bit_or (image T false a 0 m) (bit_or (union (ages (horizon T)) (λ u. side x (back u))) T.standing)
      one x m = ap (λ n. bit_or (image T false a 0 m) (bit_or n T.standing)) (side-together x (ages (horizon T)) back)

  -- above age 0 the letter adds nothing to what it keeps
  pub later-pair : (k : ℕ) → 1 ≤ k → step_pairs T (letter a) f k ≡ image_pair T false a k (f k)
  unfolding step_pairs step_at letter_at
  later-pair k l = rw (ne_eqb k 0 (λ e. omega arith)) (pair_ext _ _ (or_zero_r _) (or_zero_r _))

module _ (T : Table) (H n a : ℕ) (r : Record) (reach : H ≡ horizon T) (ok : Proper H n r) where
  pub led-held : (out high v : Pair) → out ≡ together r.count (λ i. led_back_in T a (place r i))
      → high ≡ image_pair T true a (H + 1) r.above → v ≡ both out high → v ≡ led_back T a (pairs_at H r)
  unfolding led_back_in led_back
  led-held out high v o h e =
      e
      ∙ ap₂ both o (h ∙ ap (λ k. image_pair T true a k r.above) (add-one H))
      ∙ sym (together-held H n r ok (image_pair T true a) (image_pair-none T true a))
      ∙ ap (λ h. together (ages h) (λ k. image_pair T true a k (pairs_at H r k))) reach

-- ---- the ages above 0, of a stretch

module _ (T : Table) (a : ℕ) (p : Pair) (lo : ℕ) (so_far : Record) where
  pub kept-none : KeptOn T a p lo lo so_far so_far
  kept-none room above g small same e = e

  pub kept_piece : (k last : ℕ) (q : Piece) (out next : Record) → KeptOn T a p lo k so_far out → lo ≤ k → k ≤ last
      → q ≡ piece_of T false a k last p → next ≡ pushed out k q.end q.led → KeptOn T a p lo (suc q.end) so_far next
  kept_piece k last q out next on low high e d room above g small same s =
      let after = (until_within T false a k last q.end end high).0 in
      d
      ∙ ap (λ (r : Record). pushed r k q.end q.led) (on room above g small (λ j l u. same j l (omega arith)) s)
      ∙ push-held room above (newest k g) k q.end q.led small
      ∙ ap (held_in room above) (sym (newest-run g k q.end q.led after alike))
    where
      end : q.end ≡ until_of T false a k last
      end = ap (λ (q : Piece). q.end) e

      alike : (j : ℕ) → k ≤ j → j ≤ q.end → g j ≡ q.led
      alike j l u =
          same j (omega arith) (omega arith)
          ∙ image-piece T false a k last p j l (subst (λ (n : ℕ). j ≤ n) end u)
          ∙ sym (ap (λ (q : Piece). q.led) e)

-- the pieces of s that come before those of t are done, and are pushed behind what was there before
pub record Kept (s t : Pieces) (before out : Record) : Type 0 where
  pub walked : Walked s t
  pub kept : KeptOn (table_of s.table.now.bytes.now) s.letter s.rest.pair s.rest.first t.rest.first before out

pub kept_first : (s : Pieces) (out : Record) → s.rest.first ≤ suc s.rest.last → Kept s s out out
kept_first s out l =
    record { walked = walk_begun s l; kept = kept-none (table_of s.table.now.bytes.now) s.letter s.rest.pair s.rest.first out }

pub kept_on : (s t u : Pieces) (x : Stretch) (before out next : Record) → s.reset ≡ false → Kept s t before out
    → GivesFirst t x u → next ≡ pushed out x.first x.last x.pair → Kept s u before next
kept_on s t u x before out next keeps w g e =
    let T = table_of s.table.now.bytes.now in
    record {
      walked = walk_on s t u x w.walked g;
      kept = rw g.next (kept_piece T s.letter s.rest.pair s.rest.first before t.rest.first s.rest.last (up_to x.last x.pair)
          out next w.kept w.walked.low (rw w.walked.same.last at g.some) (rw keeps at (piece_next s t u x w.walked g))
          (rw g.first at e));
    }

pub kept_end : (s t : Pieces) (before out : Record) → Kept s t before out → t.rest.last < t.rest.first
    → KeptOn (table_of s.table.now.bytes.now) s.letter s.rest.pair s.rest.first (suc s.rest.last) before out
kept_end s t before out w l = rw (walk_end s t w.walked l) at w.kept

-- ---- the ages above 0, of the record

-- the ages below it are done once the places below i are
unfoldable pub reached : Record → ℕ → ℕ
reached r zero = 1
reached r (suc i) = suc (place r i).last

module _ (T : Table) (H n a : ℕ) (r : Record) (ok : Proper H n r) where
  abbrev g : Pairs
  g = step_pairs T (letter a) (pairs_at H r)

  -- an age between the places before place i and place i keeps nothing
  between : (i : ℕ) → i ≤ r.count → (k : ℕ) → reached r i ≤ k → 1 ≤ k → k ≤ H → (i < r.count → k < (place r i).first)
      → (g k).possible ≡ 0
  unfolding reached
  between i m k low one high first =
      ap (λ (p : Pair). p.possible) (later-pair T a (pairs_at H r) k one)
      ∙ ap (λ (p : Pair). (image_pair T false a k p).possible) (pairs-between H n r ok i k m high (ended i low) first)
      ∙ ap (λ (p : Pair). p.possible) (image_pair-none T false a k)
    where
      ended : (i : ℕ) → reached r i ≤ k → (j : ℕ) → suc j ≡ i → (place r j).last < k
      ended zero l j e = absurd (let z : ⊥ = omega arith in z)
      ended (suc i) l j e = subst (λ (m : ℕ). (place r m).last < k) (let same : i ≡ j = omega arith in same) l

  -- the empty record with age 0 pushed
  pub kept-begun : (room : ℕ) (above first : Pair) (empty out : Record) → room ≤ 64 → first ≡ g 0
      → empty ≡ empty_record room above → out ≡ pushed empty 0 0 first → out ≡ held_in room above (newest (reached r 0) g)
  unfolding reached newest
  kept-begun room above first empty out small f e o =
      o
      ∙ ap₂ (λ (x : Record) (p : Pair). pushed x 0 0 p) (e ∙ empty_held room above) f
      ∙ push-held room above [] 0 0 (g 0) small

  -- above H it keeps what it keeps at the age H + 1
  pub kept_above : (high : Pair) → high ≡ image_pair T false a (H + 1) r.above → high ≡ g (suc H)
  kept_above high e =
      e
      ∙ ap (λ k. image_pair T false a k r.above) (add-one H)
      ∙ ap (image_pair T false a (suc H)) (sym (pairs_at-above H r))
      ∙ sym (later-pair T a (pairs_at H r) (suc H) (omega arith))

  reached-low : (i : ℕ) → 1 ≤ reached r i
  unfolding reached
  reached-low zero = omega arith
  reached-low (suc i) = omega arith

  -- up to where place i begins, or to the end, nothing is added
  kept-skip : (i k : ℕ) → i ≤ r.count → reached r i ≤ k → k ≤ suc H → (i < r.count → k ≤ (place r i).first)
      → newest k g ≡ newest (reached r i) g
  kept-skip i k m low high first = newest-skip g (reached r i) k low
      (λ j l u. between i m j l (omega (arith, reached-low i)) (omega arith) (λ b. omega (arith, first b)))

  -- place i, behind those before it
  pub kept_next : (i room : ℕ) (above : Pair) (out next : Record) → room ≤ 64 → i < r.count
      → out ≡ held_in room above (newest (reached r i) g)
      → KeptOn T a (place r i).pair (max 1 (place r i).first) (suc (place r i).last) out next
      → next ≡ held_in room above (newest (reached r (i + 1)) g)
  unfolding reached
  kept_next i room above out next small l e on = rw (add-one i) (on room above g small same (e ∙ sym begun))
    where
      same : (k : ℕ) → max 1 (place r i).first ≤ k → k < suc (place r i).last → g k ≡ image_pair T false a k (place r i).pair
      same k b c =
          later-pair T a (pairs_at H r) k (omega arith)
          ∙ ap (image_pair T false a k) (pairs-in H n r ok i k l (omega arith) (omega arith))

      begun : held_in room above (newest (max 1 (place r i).first) g) ≡ held_in room above (newest (reached r i) g)
      begun = ap (held_in room above) (go i l (dec_le 1 (place r i).first))
        where
          first_after : (i : ℕ) → i < r.count → 1 ≤ (place r i).first → reached r i ≤ (place r i).first
          first_after zero l o = o
          first_after (suc i) l o = ok.rising i l

          only_first : (i : ℕ) → i < r.count → ¬ (1 ≤ (place r i).first) → reached r i ≡ 1
          only_first zero l o = refl
          only_first (suc i) l o = absurd (omega (arith, ok.rising i l))

          go : (i : ℕ) → i < r.count → Dec (1 ≤ (place r i).first)
              → newest (max 1 (place r i).first) g ≡ newest (reached r i) g
          go i l (yes o) = let e : max 1 (place r i).first ≡ (place r i).first = omega arith in
              rw e (kept-skip i (place r i).first (omega arith) (first_after i l o)
              (omega (arith, (ok.each i l).within, (ok.each i l).order)) (λ b. omega arith))
          go i l (no o) = let e : max 1 (place r i).first ≡ 1 = omega arith in
              rw (e, only_first i l o)

  -- all places done: all ages 0 to H are
  pub kept-all : (i room : ℕ) (above : Pair) (out : Record) → i ≡ r.count → out ≡ held_in room above (newest (reached r i) g)
      → out ≡ held_in room above (newest (suc H) g)
  unfolding reached
  kept-all i room above out e o = o ∙ ap (held_in room above)
      (sym (kept-skip i (suc H) (omega arith) (low i (omega arith)) (omega arith) (λ b. absurd (let z : ⊥ = omega arith in z))))
    where
      low : (i : ℕ) → i ≤ r.count → reached r i ≤ suc H
      low zero m = omega arith
      low (suc i) m = omega (arith, (ok.each i m).within)
