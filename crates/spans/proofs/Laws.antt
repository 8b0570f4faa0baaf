-- The record at a start, at a gap and after a span. The first two are one push (`start_pushed`, `gap_pushed`). After a span,
-- each stretch has its part above H (`passed-one`, `passed-none`), and the record is built place by place: `so_far` begins with
-- the pair above H (`so_far_none`, by `span_above`), takes one place more (`so_far_next`), and is the record that holds the pairs
-- once all are taken (`so_far_all`). A step of the meaning is this span (`span_stepped`). Assumes nothing.
use Prim.Native.Nat.{ℕ, zero, suc, ◌+◌, ◌-◌, ◌^◌, ◌≤◌, ◌<◌, suc-le-suc, min}
use mathlib.Core.Path.{◌≡◌, refl, sym, ap, ap₂, ◌∙◌, subst}
use mathlib.Core.Logic.{◌⊎◌, inl, inr}
use mathlib.Core.List.{List, []}
use mathlib.Core.Bool.{Bool, true, false, cond}
use native.Mathlib.Nat.{le_trans}
use native.Mathlib.Decide.{dec_le}
use native.Mathlib.Numerals.{add-one}
use native.Mathlib.Omega.{arith}
use lib.Dec.{ltb, eqb-suc-zero}
use lib.ListN.{length, length-reverse}
use Rattle.std.specs.Int.Bits.{or_zero_r}
use borrow.Author.Tests.{le-ltb, lt-ltb, le-leb, lt-leb}
use Rattle.base.specs.Masks.{pick, union}
use Rattle.meaning.specs.Tables.{Table, horizon}
use Rattle.meaning.specs.Runs.{span}
use Rattle.meaning.specs.Ages.{ages, step_at}
use Rattle.meaning.proofs.Ages.{span_moved, span_gone, span_passed}
use Rattle.record.specs.declared.Pair.{Pair}
use Rattle.record.specs.declared.Stretch.{Stretch}
use Rattle.record.specs.declared.Record.{Record}
use Rattle.record.specs.Pairs.{Pairs, no_pair, both, together, sures, possibles, start_pairs, gap_pairs, step_pairs}
use Rattle.record.specs.Stretches.{push, newest}
use Rattle.record.specs.Records.{place, pairs_at, over_ages, record_of, Proper}
use Rattle.record.specs.Building.{empty_record, held_in, pushed}
use Rattle.record.proofs.Stretches.{pair_ext, push-length, newest-run, newest-skip}
use Rattle.record.proofs.Together.{side, side-ext, side-together, together-cong, over_last}
use Rattle.record.proofs.Places.{pairs-in, pairs-between, together-held}
use Rattle.record.proofs.Counts.{start_newest, gap_newest}
use Rattle.record.proofs.Building.{empty_held, push-held, built-fits}
use Rattle.spans.specs.Spans.{span_pairs, passed_in, moved_in}

-- ---- a start and a gap

-- a record into which one push puts all stretches of f
one_pushed : (room H : ℕ) (f : Pairs) (a b : ℕ) (p : Pair) → newest (suc H) f ≡ push [] a b p → 1 ≤ room → room ≤ 64
    → pushed (empty_record room (f (suc H))) a b p ≡ record_of room H f
one_pushed room H f a b p e low high =
    ap (λ (r : Record). pushed r a b p) (empty_held room (f (suc H)))
    ∙ push-held room (f (suc H)) [] a b p high
    ∙ ap (held_in room (f (suc H))) (sym e)
    ∙ built-fits room H f (rw (length-reverse (newest (suc H) f), e) (le_trans (push-length [] a b p).1 low))

pub start_pushed : (T : Table) (H room : ℕ) → 1 ≤ room → room ≤ 64
    → let p : Pair = record { sure = T.initial; possible = T.initial } in
    pushed (empty_record room no_pair) 0 0 p ≡ record_of room H (start_pairs T)
unfolding start_pairs
start_pushed T H room low high =
    ap (λ (p : Pair). pushed (empty_record room p) 0 0 (start_pairs T 0)) none
    ∙ one_pushed room H (start_pairs T) 0 0 (start_pairs T 0) (start_newest T H) low high
  where
    none : no_pair ≡ start_pairs T (suc H)
    none = rw eqb-suc-zero

pub gap_pushed : (T : Table) (H room : ℕ) → 1 ≤ room → room ≤ 64
    → let p : Pair = record { sure = 0; possible = 2 ^ T.states - 1 } in
    pushed (empty_record room p) 0 H p ≡ record_of room H (gap_pairs T)
unfolding gap_pairs
gap_pushed T H room low high = one_pushed room H (gap_pairs T) 0 H (gap_pairs T 0) (gap_newest T H) low high

-- ---- a span

-- what the stretch x leaves above H, put to what others leave: its pair, or nothing
pub passed-one : (H s : ℕ) (x : Stretch) (out : Pair) → H < x.last + s → both out x.pair ≡ both out (passed_in H s x)
passed-one H s x out l = rw (lt-ltb H (x.last + s) l) refl

pub passed-none : (H s : ℕ) (x : Stretch) (out : Pair) → x.last + s ≤ H → out ≡ both out (passed_in H s x)
passed-none H s x out l = rw (le-ltb H (x.last + s) l, or_zero_r out.sure, or_zero_r out.possible) refl

-- the step of a table by a span goes by its horizon alone
pub span_stepped : (T : Table) (s : ℕ) (f : Pairs) → span_pairs (horizon T) s f ≡ step_pairs T (span s) f
unfolding span_pairs step_pairs step_at
span_stepped T s f = refl

pick-side : (t b : Bool) (p : Pair) → pick b (side t p) ≡ side t (cond b p no_pair)
pick-side true true p = refl
pick-side true false p = refl
pick-side false true p = refl
pick-side false false p = refl

-- how many ages the first i places reach once they are moved: all up to the last age of the last of them, or to H
reached : ℕ → ℕ → Record → ℕ → ℕ
reached H s r zero = 0
reached H s r (suc i) = suc (min ((place r i).last + s) H)

-- the record that holds what the first i places become
pub so_far : ℕ → ℕ → Record → ℕ → Record
so_far H s r i =
    let g = span_pairs H s (pairs_at H r) in
    held_in r.room (g (suc H)) (newest (reached H s r i) g)

module _ (H n s : ℕ) (r : Record) (ok : Proper H n r) where
  abbrev f : Pairs
  f = pairs_at H r

  abbrev g : Pairs
  g = span_pairs H s f

  -- ---- above H: what passes it, and what was there

  abbrev high : Pair
  high = both (together r.count (λ i. passed_in H s (place r i))) r.above

  -- what the pair p of the age k leaves there
  abbrev gone : ℕ → Pair → Pair
  gone k p = cond (ltb H (k + s)) p no_pair

  gone_none : (k : ℕ) → gone k no_pair ≡ no_pair
  gone_none k = go (ltb H (k + s))
    where
      go : (b : Bool) → cond b no_pair no_pair ≡ no_pair
      go true = refl
      go false = refl

  -- of the ages up to b, what age b leaves or nothing
  gone_below : (p : Pair) (b k : ℕ) → k ≤ b → (gone k p ≡ gone b p) ⊎ (gone k p ≡ no_pair)
  gone_below p b k l = go (dec_le (k + s) H)
    where
      go : Dec (k + s ≤ H) → (gone k p ≡ gone b p) ⊎ (gone k p ≡ no_pair)
      go (yes c) = inr (rw (le-ltb H (k + s) c))
      go (no c) = inl (rw (lt-ltb H (k + s) (omega arith), lt-ltb H (b + s) (omega arith)))

  gone_held : together (ages H) (λ k. gone k (f k)) ≡ high
  gone_held =
      together-held H n r ok gone gone_none
      ∙ ap₂ both (together-cong r.count _ _ one) (rw (lt-ltb H (suc H + s) (omega arith)))
    where
      one : (i : ℕ) → i < r.count → over_ages (place r i) (λ k. gone k (place r i).pair) ≡ passed_in H s (place r i)
      one i l = over_last (place r i) (λ k. gone k (place r i).pair) (ok.each i l).order
          (gone_below (place r i).pair (place r i).last)

  span_above : g (suc H) ≡ high
  unfolding span_pairs
  span_above = side-ext _ _ (λ t.
      passed t
      ∙ (λ i. union (ages H) (λ k. pick-side t (ltb H (k + s)) (f k) i))
      ∙ sym (side-together t (ages H) (λ k. gone k (f k)))
      ∙ ap (side t) gone_held)
    where
      passed : (t : Bool) → side t (g (suc H)) ≡ union (ages H) (λ k. pick (ltb H (k + s)) (side t (f k)))
      passed true = span_passed H s (sures f)
      passed false = span_passed H s (possibles f)

  -- ---- up to H

  moved : (k : ℕ) → k ≤ H → s ≤ k → g k ≡ f (k - s)
  unfolding span_pairs
  moved k l m = pair_ext (g k) (f (k - s)) (span_moved H s (sures f) k l m) (span_moved H s (possibles f) k l m)

  -- from where the places before place i reach up to place i nothing is possible
  between : (i k : ℕ) → i ≤ r.count → k ≤ H → reached H s r i ≤ k → (i < r.count → k < (place r i).first + s)
      → (g k).possible ≡ 0
  unfolding span_pairs reached
  between i k c l m before = go (dec_le s k)
    where
      ended : (i : ℕ) → reached H s r i ≤ k → s ≤ k → (j : ℕ) → suc j ≡ i → (place r j).last < k - s
      ended zero m d j e = absurd (let z : ⊥ = omega arith in z)
      ended (suc i) m d j e = subst (λ (n : ℕ). (place r n).last < k - s) (let same : i ≡ j = omega arith in same) (omega arith)

      go : Dec (s ≤ k) → (g k).possible ≡ 0
      go (yes d) = ap (λ (p : Pair). p.possible) (
          moved k l d
          ∙ pairs-between H n r ok i (k - s) c (omega arith) (ended i m d) (λ b. omega (arith, before b)))
      go (no d) = span_gone H s (possibles f) k l (omega arith)

  -- the stretches of the ages that the first i places reach
  abbrev L : ℕ → List Stretch
  L i = newest (reached H s r i) g

  skip : (i b : ℕ) → i ≤ r.count → reached H s r i ≤ b → b ≤ suc H → (i < r.count → b ≤ (place r i).first + s)
      → newest b g ≡ L i
  skip i b c l m before = newest-skip g (reached H s r i) b l
      (λ k u v. between i k c (omega arith) u (λ d. omega (arith, before d)))

  reached-high : (i : ℕ) → reached H s r i ≤ suc H
  unfolding reached
  reached-high zero = omega arith
  reached-high (suc i) = omega arith

  reached-low : (i : ℕ) → i < r.count → reached H s r i ≤ (place r i).first + s
  unfolding reached
  reached-low zero l = omega arith
  reached-low (suc i) l = omega (arith, ok.rising i l)

  -- place i is one push more, or has passed H as a whole
  abbrev OneMore : ℕ → Type 0
  OneMore i = ((place r i).first + s ≤ H)
      × (L (suc i) ≡ push (L i) ((place r i).first + s) (min ((place r i).last + s) H) (place r i).pair)

  abbrev NoMore : ℕ → Type 0
  NoMore i = (H < (place r i).first + s) × (L (suc i) ≡ L i)

  next : (i : ℕ) → i < r.count → OneMore i ⊎ NoMore i
  unfolding reached
  next i l = go (dec_le ((place r i).first + s) H)
    where
      a : ℕ
      a = (place r i).first + s

      b : ℕ
      b = min ((place r i).last + s) H

      p : Pair
      p = (place r i).pair

      here : (k : ℕ) → a ≤ k → k ≤ b → g k ≡ p
      here k u v = moved k (omega arith) (omega arith) ∙ pairs-in H n r ok i (k - s) l (omega arith) (omega arith)

      go : Dec (a ≤ H) → OneMore i ⊎ NoMore i
      go (yes c) = let below = skip i a (omega arith) (reached-low i l) (omega arith) (λ d. omega arith) in
          let run = newest-run g a b p (omega (arith, (ok.each i l).order)) here in
          inl (c, run ∙ ap (λ (M : List Stretch). push M a b p) below)
      go (no c) = let cut : suc b ≡ suc H = omega (arith, (ok.each i l).order) in
          let rest = skip i (suc H) (omega arith) (reached-high i) (omega arith) (λ d. omega arith) in
          inr (omega arith, ap (λ (k : ℕ). newest k g) cut ∙ rest)

  -- so i places become at most i stretches
  few : (i : ℕ) → i ≤ r.count → length (L i) ≤ i
  unfolding reached newest
  few zero l = omega arith
  few (suc i) l = go (next i l) (few i (omega arith))
    where
      go : OneMore i ⊎ NoMore i → length (L i) ≤ i → length (L (suc i)) ≤ suc i
      go (inl (c, e)) ih = rw e (le_trans (push-length (L i) _ _ _).1 (suc-le-suc ih))
      go (inr (c, e)) ih = rw e (omega arith)

  -- ---- the record, place by place

  pub so_far_none : (v : Record) → v ≡ empty_record r.room high → v ≡ so_far H s r 0
  unfolding so_far reached newest
  so_far_none v e = e ∙ ap (empty_record r.room) (sym span_above) ∙ empty_held r.room (g (suc H))

  pub so_far_next : (i : ℕ) (v : Record) → i < r.count → v ≡ moved_in H s (place r i) (so_far H s r i) → v ≡ so_far H s r (i + 1)
  unfolding so_far
  so_far_next i v l e = rw (add-one i) (e ∙ go (next i l))
    where
      go : OneMore i ⊎ NoMore i → moved_in H s (place r i) (so_far H s r i) ≡ so_far H s r (suc i)
      go (inl (c, e)) = rw (le-leb _ H c, e) (push-held r.room (g (suc H)) (L i) _ _ _ ok.room_high)
      go (inr (c, e)) = rw (lt-leb _ H c, e)

  pub so_far_all : so_far H s r r.count ≡ record_of r.room H g
  unfolding so_far
  so_far_all =
      ap (held_in r.room (g (suc H))) (sym all)
      ∙ built-fits r.room H g (rw (length-reverse (newest (suc H) g), all) (omega (arith, few r.count (omega arith), ok.fits)))
    where
      all : newest (suc H) g ≡ L r.count
      all = skip r.count (suc H) (omega arith) (reached-high r.count) (omega arith) (λ d. omega arith)
