-- The record and its pairs. A proper record is the one that holds its own pairs (`canon_record`), so two proper records of one
-- room with the same pairs are the same, place for place (`unique`); what a proper record holds and counts are the longest runs
-- (`held_longest`, `count_longest`). The record that holds f is proper and says f (`record_of-proper`, `record_of-pairs`). Assumes
-- nothing.
use Prim.Native.Nat.{ℕ, zero, suc, ◌+◌, ◌-◌, ◌≤◌, ◌<◌, min}
use mathlib.Core.Path.{◌≡◌, refl, sym, ap, ap₂, ◌∙◌, subst}
use mathlib.Core.Logic.{◌↔◌}
use mathlib.Core.List.{List, [], ◌∷◌, ◌++◌, reverse, reverse-append, reverse-reverse, Memᴰ}
use mathlib.Core.Bool.{Bool, true, false, cond}
use native.Mathlib.Nat.{le_refl}
use native.Mathlib.Decide.{ℕ_discrete, dec_le}
use native.Mathlib.Omega.{arith}
use lib.Dec.{T as Is, leb}
use lib.ListN.{length, get_or, take, drop, replicate, length-drop, length-replicate, get_or-replicate, take-append-drop, length-append, length-reverse}
use lib.Pow.{pow_pos}
use lib.Seq.{take-suc, take-length, ext_get_or, get_or-drop, take_at, get_or-append-add}
use Rattle.base.specs.Masks.{Has}
use Rattle.base.proofs.Tests.{is_true, is_false, leb_iff}
use Rattle.base.proofs.Masks.{not_has_zero, empty_mask}
use Rattle.record.specs.declared.Pair.{Pair}
use Rattle.record.specs.declared.Stretch.{Stretch}
use Rattle.record.specs.declared.Record.{Record}
use Rattle.record.specs.Pairs.{Pairs, no_pair}
use Rattle.record.specs.Stretches.{LongestRun, newest, stretches_of, first_ages}
use Rattle.record.specs.Records.{blank, place, inside, pair_in, pairs_at, record_of, PairOk, StretchOk, Proper}
use Rattle.record.proofs.Stretches.{pair_ext, said, Next, Apart, Good, ProperList, canon, newest-cong, newest-proper, said-newest, Any, newest-any}
use Rattle.record.proofs.Longest.{stretches_longest, stretches_count}

reverse_take : (l : List Stretch) (i : ℕ) → i < length l → reverse (take (suc i) l) ≡ get_or l i blank ∷ reverse (take i l)
reverse_take l i h = ap reverse (take-suc l i blank h) ∙ reverse-append (take i l) (get_or l i blank ∷ [])

-- the stretches in use, the newest first
abbrev pub used : Record → List Stretch
used r = reverse (take r.count r.places)

module _ (H : ℕ) (r : Record) where
  pub pairs_at-low : r.count ≤ 64 → (k : ℕ) → k ≤ H → pairs_at H r k ≡ pair_in r.places r.count k
  unfolding pairs_at
  pairs_at-low few k l =
      ap (λ (t : Bool). cond t (pair_in r.places (min r.count 64) k) r.above) (is_true (leb k H) ((leb_iff k H).1 l))
      ∙ ap (λ (n : ℕ). pair_in r.places n k) (let counted : min r.count 64 ≡ r.count = omega arith in counted)

  pub pairs_at-above : pairs_at H r (suc H) ≡ r.above
  unfolding pairs_at
  pairs_at-above = ap (λ (t : Bool). cond t (pair_in r.places (min r.count 64) (suc H)) r.above)
      (is_false (leb (suc H) H) not_low)
    where
      not_low : ¬ Is (leb (suc H) H)
      not_low t = let z : suc H ≤ H = (leb_iff (suc H) H).0 t in omega arith

-- a pair with nothing possible has nothing sure
pub pair_ok-empty : (n : ℕ) (p : Pair) → PairOk n p → p.possible ≡ 0 → p ≡ no_pair
pair_ok-empty n p o e = pair_ext p no_pair (empty_mask p.sure none) e
  where
    none : (i : ℕ) → ¬ Has p.sure i
    none i h = not_has_zero i (subst (λ (x : ℕ). Has x i) e (o.part i h))

pub no_pair-ok : (n : ℕ) → PairOk n no_pair
no_pair-ok n = record { part = λ i h. h; small = pow_pos n }

-- what a proper record says of an age is a proper pair
pub proper-pairs : (H n : ℕ) (r : Record) → Proper H n r → (k : ℕ) → PairOk n (pairs_at H r k)
unfolding pairs_at pair_in
proper-pairs H n r p k = go (leb k H)
  where
    pick : (t : Bool) (x y : Pair) → PairOk n x → PairOk n y → PairOk n (cond t x y)
    pick true x y o q = o
    pick false x y o q = q

    among : (i : ℕ) → i ≤ r.count → PairOk n (pair_in r.places i k)
    among zero l = no_pair-ok n
    among (suc i) l = pick (inside (place r i) k) (place r i).pair (pair_in r.places i k)
        (p.each i l).pair (among i (omega arith))

    go : (t : Bool) → PairOk n (cond t (pair_in r.places (min r.count 64) k) r.above)
    go true = among (min r.count 64) (omega arith)
    go false = p.above

good_ok : (H n : ℕ) (x : Stretch) → Good (PairOk n) (suc H) x → StretchOk H n x
good_ok H n x g = record { pair = g.pair; within = omega (arith, g.below); order = g.order; some = g.some }

-- ---- the stretches of a proper record's pairs are its places in use

-- the first i places, the newest first
unfoldable placed : Record → ℕ → List Stretch
placed r zero = []
placed r (suc i) = place r i ∷ placed r i

length_placed : (r : Record) (i : ℕ) → length (placed r i) ≡ i
unfolding placed
length_placed r zero = refl
length_placed r (suc i) = ap suc (length_placed r i)

pair_in-placed : (r : Record) (i k : ℕ) → pair_in r.places i k ≡ said (placed r i) k
unfolding pair_in said placed
pair_in-placed r zero k = refl
pair_in-placed r (suc i) k = ap (cond (inside (place r i) k) (place r i).pair) (pair_in-placed r i k)

used-placed : (r : Record) (i : ℕ) → i ≤ length r.places → reverse (take i r.places) ≡ placed r i
unfolding placed
used-placed r zero l = refl
used-placed r (suc i) l = reverse_take r.places i l ∙ ap (λ (L : List Stretch). place r i ∷ L) (used-placed r i (omega arith))

module _ (H n : ℕ) (r : Record) (ok : Proper H n r) where
  few : r.count ≤ 64
  few = omega (arith, ok.fits, ok.room_high)

  placed-proper : (i : ℕ) → i ≤ r.count → (b : ℕ) → ((j : ℕ) → suc j ≡ i → (place r j).last < b)
      → ProperList (PairOk n) b (placed r i)
  unfolding placed
  placed-proper zero l b h = tt
  placed-proper (suc i) l b h = (
    record { pair = held.pair; below = h i refl; order = held.order; some = held.some },
    apart i (omega arith),
    placed-proper i (omega arith) (place r i).first rising,
  )
    where
      held : StretchOk H n (place r i)
      held = ok.each i (omega arith)

      rising : (j : ℕ) → suc j ≡ i → (place r j).last < (place r i).first
      rising j e = subst (λ (m : ℕ). (place r j).last < (place r m).first) e (ok.rising j (omega arith))

      apart : (i : ℕ) → i < r.count → Apart (place r i) (placed r i)
      apart zero l = tt
      apart (suc i) l = ok.differ i l

  newest-placed : newest (suc H) (pairs_at H r) ≡ placed r r.count
  newest-placed =
      newest-cong (suc H) (pairs_at H r) (said (placed r r.count))
      (λ k l. pairs_at-low H r few k (omega arith) ∙ pair_in-placed r r.count k)
      ∙ canon (PairOk n) (placed r r.count) (suc H) (placed-proper r.count (le_refl r.count) (suc H) low)
    where
      low : (j : ℕ) → suc j ≡ r.count → (place r j).last < suc H
      low j e = omega (arith, (ok.each j (omega arith)).within)

  -- the count is the number of the stretches of its pairs
  pub count_used : length (stretches_of H (pairs_at H r)) ≡ r.count
  count_used = length-reverse (newest (suc H) (pairs_at H r)) ∙ ap length newest-placed ∙ length_placed r r.count

  -- "the count is that of the stretches as defined"
  pub count_longest : r.count ≡ first_ages (suc H) (pairs_at H r)
  count_longest = sym count_used ∙ stretches_count H (pairs_at H r)

-- ---- a proper record is the one that holds its own pairs. Every record has 64 places; that is `whole`.

module _ (H n : ℕ) (r : Record) (whole : length r.places ≡ 64) (ok : Proper H n r) where
  newest-used : newest (suc H) (pairs_at H r) ≡ used r
  newest-used = newest-placed H n r ok ∙ sym (used-placed r r.count (omega (arith, few H n r ok)))

  -- the stretches of its pairs are the ones it holds
  pub stretches_used : stretches_of H (pairs_at H r) ≡ take r.count r.places
  stretches_used = ap reverse newest-used ∙ reverse-reverse (take r.count r.places)

  -- what it holds are exactly the longest runs of its pairs
  pub held_longest : (x : Stretch) → Memᴰ x (take r.count r.places) ↔ LongestRun H (pairs_at H r) x
  held_longest x = subst (λ (L : List Stretch). Memᴰ x L ↔ LongestRun H (pairs_at H r) x) stretches_used
      (stretches_longest H (pairs_at H r) x)

  unused_blank : drop r.count r.places ≡ replicate (64 - r.count) blank
  unused_blank = ext_get_or blank (drop r.count r.places) (replicate (64 - r.count) blank)
      (simp (length-drop, length-replicate, whole))
      (λ i l. let b : i < 64 - r.count = rw (length-drop, whole) at l in
      get_or-drop r.count r.places i blank
      ∙ ok.unused (r.count + i) (omega arith) (omega arith)
      ∙ sym (get_or-replicate (64 - r.count) i blank blank b))

  pub canon_record : record_of r.room H (pairs_at H r) ≡ r
  unfolding record_of
  canon_record = λ i. record { room = r.room; count = count_used H n r ok i; places = stored i; above = pairs_at-above H r i }
    where
      stored : stretches_of H (pairs_at H r) ++ replicate (64 - length (stretches_of H (pairs_at H r))) blank ≡ r.places
      stored =
          ap₂ (λ (L : List Stretch) (c : ℕ). L ++ replicate (64 - c) blank) stretches_used (count_used H n r ok)
          ∙ ap (λ (L : List Stretch). take r.count r.places ++ L) (sym unused_blank)
          ∙ take-append-drop r.count r.places

-- the record that holds f is settled by the pairs of the ages 0 to H + 1
pub record_of-cong : (room H : ℕ) (f g : Pairs) → ((k : ℕ) → k ≤ suc H → f k ≡ g k) → record_of room H f ≡ record_of room H g
unfolding record_of
record_of-cong room H f g e = λ i. record {
  room = room;
  count = length (L i);
  places = L i ++ replicate (64 - length (L i)) blank;
  above = e (suc H) (le_refl (suc H)) i;
}
  where
    L : stretches_of H f ≡ stretches_of H g
    L = ap reverse (newest-cong (suc H) f g (λ k l. e k (omega arith)))

-- two proper records of one table and one room that say the same of every age are the same, place for place
pub unique : (H n : ℕ) (r s : Record) → length r.places ≡ 64 → length s.places ≡ 64 → Proper H n r → Proper H n s
    → r.room ≡ s.room → ((k : ℕ) → k ≤ suc H → pairs_at H r k ≡ pairs_at H s k) → r ≡ s
unique H n r s wr ws pr ps same-room e =
    sym (canon_record H n r wr pr)
    ∙ record_of-cong r.room H (pairs_at H r) (pairs_at H s) e
    ∙ ap (λ (room : ℕ). record_of room H (pairs_at H s)) same-room
    ∙ canon_record H n s ws ps

-- ---- from the list to the places

module _ (P : Pair → Type 0) (l : List Stretch) where
  abbrev at : ℕ → Stretch
  at i = get_or l i blank

  split : (c : ℕ) {b : ℕ} → suc c ≤ length l → ProperList P b (reverse (take (suc c) l))
      → Good P b (at c) × Apart (at c) (reverse (take c l)) × ProperList P (at c).first (reverse (take c l))
  split c h p = rw (reverse_take l c h) at p

  index_good : (c : ℕ) {b : ℕ} → c ≤ length l → ProperList P b (reverse (take c l)) → (i : ℕ) → i < c → Good P b (at i)
  index_good zero h p i k = absurd (let z : ⊥ = omega arith in z)
  index_good (suc c) {b} h p i k = go (ℕ_discrete i c) (λ d. index_good c (omega arith) (split c h p).2 i d)
    where
      go : Dec (i ≡ c) → (i < c → Good P (at c).first (at i)) → Good P b (at i)
      go (yes e) ih = subst (λ (j : ℕ). Good P b (at j)) (sym e) (split c h p).0
      go (no d) ih = let g = ih (omega arith) in
          let g' = (split c h p).0 in
          record { pair = g.pair; below = omega (arith, g.below, g'.below, g'.order); order = g.order; some = g.some }

  index_next : (c b : ℕ) → c ≤ length l → ProperList P b (reverse (take c l)) → (i : ℕ) → suc i < c
      → Next (at i) (at (suc i))
  index_next zero b h p i k = absurd (let z : ⊥ = omega arith in z)
  index_next (suc c) b h p i k = go (ℕ_discrete (suc i) c) (λ d. index_next c (at c).first (omega arith) (split c h p).2 i d)
    where
      go : Dec (suc i ≡ c) → (suc i < c → Next (at i) (at (suc i))) → Next (at i) (at (suc i))
      go (no d) ih = ih (omega arith)
      go (yes e) ih = let s = split c h p in subst (λ (j : ℕ). Next (at i) (at j)) (sym e) (last (s.1, s.2))
        where
          -- what the list says of the stretches before c
          Before : List Stretch → Type 0
          Before L = Apart (at c) L × ProperList P (at c).first L

          last : Before (reverse (take c l)) → Next (at i) (at c)
          last s =
              let m : suc i ≤ length l = omega arith in
              let t : Before (reverse (take (suc i) l)) = subst (λ (j : ℕ). Before (reverse (take j l))) (sym e) s in
              let u : Before (at i ∷ reverse (take i l)) = rw (reverse_take l i m) at t in
              (u.1.0.below, u.0)

-- the stretches are listed in rising order, and so each of them once
pub stretches_rising : (H : ℕ) (f : Pairs) (i : ℕ) → suc i < length (stretches_of H f)
    → (get_or (stretches_of H f) i blank).last < (get_or (stretches_of H f) (suc i) blank).first
stretches_rising H f i l = (index_next Any L (length L) (suc H) (le_refl (length L)) list i l).0
  where
    L : List Stretch
    L = stretches_of H f

    list : ProperList Any (suc H) (reverse (take (length L) L))
    list = rw (take-length L, reverse-reverse (newest (suc H) f)) (newest-any (suc H) f)

-- ---- the record that holds f, where every pair of f is a proper one and the stretches fit into the room

module _ (room H n : ℕ) (f : Pairs) (ok : (k : ℕ) → k ≤ suc H → PairOk n (f k))
    (fits : length (stretches_of H f) ≤ room) (low : 1 ≤ room) (high : room ≤ 64) where
  abbrev L : List Stretch
  L = stretches_of H f

  abbrev r : Record
  r = record_of room H f

  pub record_of-whole : length (record_of room H f).places ≡ 64
  unfolding record_of
  record_of-whole = simp (length-append, length-replicate) (omega arith)

  used-of : used r ≡ newest (suc H) f
  unfolding record_of
  used-of = ap reverse (take_at L (replicate (64 - length L) blank) (length L) refl) ∙ reverse-reverse (newest (suc H) f)

  few_of : r.count ≤ 64
  unfolding record_of
  few_of = omega arith

  inside_of : r.count ≤ length r.places
  unfolding record_of
  inside_of = omega (arith, record_of-whole)

  pub record_of-pairs : (k : ℕ) → k ≤ suc H → pairs_at H (record_of room H f) k ≡ f k
  unfolding record_of
  record_of-pairs k l = go (dec_le k H)
    where
      go : Dec (k ≤ H) → pairs_at H r k ≡ f k
      go (yes b) =
          pairs_at-low H r few_of k b
          ∙ pair_in-placed r r.count k
          ∙ ap (λ (L : List Stretch). said L k) (sym (used-placed r r.count inside_of) ∙ used-of)
          ∙ said-newest (PairOk n) (pair_ok-empty n) (suc H) f (λ j b. ok j (omega arith)) k (omega arith)
      go (no b) = let e : k ≡ suc H = omega arith in
          ap (pairs_at H r) e ∙ pairs_at-above H r ∙ ap f (sym e)

  pub record_of-proper : Proper H n (record_of room H f)
  unfolding record_of
  record_of-proper = record {
    room_low = low;
    room_high = high;
    fits = fits;
    each = λ i l. good_ok H n (place r i) (index_good (PairOk n) r.places r.count inside_of list i l);
    rising = λ i l. (index_next (PairOk n) r.places r.count (suc H) inside_of list i l).0;
    differ = λ i l. (index_next (PairOk n) r.places r.count (suc H) inside_of list i l).1;
    above = ok (suc H) (le_refl (suc H));
    unused = spare;
  }
    where
      list : ProperList (PairOk n) (suc H) (used r)
      list = rw used-of (newest-proper (PairOk n) (suc H) f (λ j b. ok j (omega arith)))

      spare : (i : ℕ) → length L ≤ i → i < 64 → place r i ≡ blank
      spare i l b =
          ap (λ (j : ℕ). get_or r.places j blank) (let e : i ≡ length L + (i - length L) = omega arith in e)
          ∙ get_or-append-add L (replicate (64 - length L) blank) (i - length L) blank
          ∙ get_or-replicate (64 - length L) (i - length L) blank blank (omega arith)
