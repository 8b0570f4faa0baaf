-- What a proper record says of all its ages is what its places say and the pair above H: the verdict (`verdict_held`; by what the
-- code asks of it, `verdicts`), and whether it is settled (`settled_in_lem`; as a walk over the stretches asks it,
-- `settled_places`). Two answers that mean the same verdict are the same (`verdict_case-one`). Assumes nothing.
use Prim.Native.Nat.{ℕ, zero, suc, ◌≤◌, ◌<◌, min}
use mathlib.Core.Path.{◌≡◌, refl, sym, ap, ap₂, ◌∙◌}
use mathlib.Core.Logic.Iff
use mathlib.Core.Logic.{◌↔◌, ◌⊎◌, inl, inr, ◌≢◌}
use mathlib.Core.List.{List}
use mathlib.Core.Bool.{Bool, true, false, ◌&&◌, not}
use native.Mathlib.Decide.{dec_le}
use native.Mathlib.Omega.{arith}
use lib.Dec.{T as Is, eqb}
use lib.ListN.{length, get_or, take, length-take}
use native.Mathlib.Numerals.{add-one}
use Rattle.std.specs.List.{list_all}
use Rattle.std.proofs.lemmas.List.Folds.{list_all_more}
use Rattle.base.specs.Masks.{all, union}
use Rattle.base.proofs.Tests.{bool_ext, and_iff, all-iff}
use Rattle.meaning.specs.Tables.{Table, horizon, accepting_at}
use Rattle.meaning.specs.Ages.{ages, accepts_at}
use Rattle.record.specs.declared.Pair.{Pair}
use Rattle.record.specs.declared.Stretch.{Stretch}
use Rattle.record.specs.declared.Record.{Record}
use Rattle.record.specs.Pairs.{Pairs, no_pair, both, together}
use Rattle.record.specs.Records.{blank, place, pairs_at, Proper}
use borrow.Author.Tests.{eq-eqb, ne_eqb}
use Rattle.record.specs.Verdicts.{says_yes, says_no, unsure, decide, verdict_at, settled_at}
use Rattle.record.proofs.Records.{pairs_at-above}
use Rattle.record.proofs.Together.{side, side-together, together-cong, over_last}
use Rattle.record.proofs.Places.{pairs-in, held_or_none, together-held}
use Rattle.verdicts.specs.declared.Verdict.{Verdict as Case}
use Rattle.verdicts.specs.declared.Verdict.TheVariants.{Yes, No, Unsure}
use Rattle.verdicts.specs.Said.{verdict_case, accepted_of, accepted_in, equal_sets, settled_in}

pub verdict_case-one : (x y : Case) → verdict_case x ≡ verdict_case y → x ≡ y
verdict_case-one Yes Yes e = refl
verdict_case-one Yes No e = cc
verdict_case-one Yes Unsure e = cc
verdict_case-one No Yes e = cc
verdict_case-one No No e = refl
verdict_case-one No Unsure e = cc
verdict_case-one Unsure Yes e = cc
verdict_case-one Unsure No e = cc
verdict_case-one Unsure Unsure e = refl

-- what a walk over the stretches asks of each, asked of the places in use
listed : {X : Type 0} (p : X → Bool) (l : List X) (d : X) (n : ℕ) → n ≤ length l
    → list_all p (take n l) ≡ all n (λ i. p (get_or l i d))
unfolding all
listed p l d zero h = refl
listed p l d (suc n) h =
    ap (λ (k : ℕ). list_all p (take k l)) (sym (add-one n))
    ∙ list_all_more p l n d (omega arith)
    ∙ ap (λ (b : Bool). b && p (get_or l n d)) (listed p l d n (omega arith))

pub settled_places : (r : Record) (items : List Stretch) → r.count ≤ 64 → items ≡ take (min r.count 64) r.places
    → length items ≡ min r.count 64
    → list_all (λ x. equal_sets x.pair) items ≡ all r.count (λ i. equal_sets (place r i).pair)
settled_places r items few e n =
    let used : min r.count 64 ≡ r.count = omega arith in
    let there : length (take (min r.count 64) r.places) ≡ min r.count 64 = rw (← e) n in
    rw (e, used) (listed (λ x. equal_sets x.pair) r.places blank r.count (omega (arith, length-take (min r.count 64) r.places)))

module _ (T : Table) (n : ℕ) (r : Record) (ok : Proper (horizon T) n r) where
  abbrev H : ℕ
  H = horizon T

  abbrev f : Pairs
  f = pairs_at H r

  -- ---- the verdict

  abbrev accepted : Pair → Pair
  accepted = accepted_of T.accepting

  accepted-held : together (ages H) (λ k. accepted (f k)) ≡ accepted_in T.accepting r
  unfolding accepted_in
  accepted-held =
      together-held H n r ok (λ k p. accepted p) (λ k. refl)
      ∙ ap (λ (p : Pair). both p (accepted r.above)) (together-cong r.count _ _ (λ i l.
      over_last (place r i) (λ k. accepted (place r i).pair) (ok.each i l).order (λ k b. inl refl)))

  accepted-side : (s : Bool) → union (ages H) (λ k. side s (accepted (f k))) ≡ side s (accepted_in T.accepting r)
  accepted-side s = sym (side-together s (ages H) (λ k. accepted (f k))) ∙ ap (side s) accepted-held

  pub verdict_held : (a : Pair) → a ≡ accepted_in T.accepting r
      → verdict_at T f ≡ decide (not (eqb a.sure 0)) (not (eqb a.possible 0))
  unfolding verdict_at accepts_at accepting_at
  verdict_held a e = rw e (ap₂ (λ (s p : ℕ). decide (not (eqb s 0)) (not (eqb p 0))) (accepted-side true) (accepted-side false))

  -- the same as the code asks
  pub said-yes : (a : Pair) → a ≡ accepted_in T.accepting r → a.sure ≢ 0 → says_yes ≡ verdict_at T (pairs_at (horizon T) r)
  said-yes a e y = rw (verdict_held a e, ne_eqb a.sure 0 y) refl

  pub said-no : (a : Pair) → a ≡ accepted_in T.accepting r → a.sure ≡ 0 → a.possible ≡ 0
      → says_no ≡ verdict_at T (pairs_at (horizon T) r)
  said-no a e y p = rw (verdict_held a e, eq-eqb a.sure 0 y, eq-eqb a.possible 0 p) refl

  pub said-unsure : (a : Pair) → a ≡ accepted_in T.accepting r → a.sure ≡ 0 → a.possible ≢ 0
      → unsure ≡ verdict_at T (pairs_at (horizon T) r)
  said-unsure a e y p = rw (verdict_held a e, eq-eqb a.sure 0 y, ne_eqb a.possible 0 p) refl

  -- ---- settled

  pub settled_in_lem : settled_in r ≡ settled_at T (pairs_at (horizon T) r)
  unfolding settled_in settled_at
  settled_in_lem = bool_ext (settled_in r) (settled_at T f) (to, from)
    where
      Each : Type 0
      Each = (i : ℕ) → i < r.count → Is (equal_sets (place r i).pair)

      places : Is (settled_in r) ↔ (Is (equal_sets r.above) × Each)
      places = and_iff (equal_sets r.above) _ Iff.rfl (all-iff r.count (λ i. equal_sets (place r i).pair))

      to : Is (settled_in r) → Is (settled_at T f)
      to h = (all-iff (ages H) (λ k. equal_sets (f k))).1 (λ k l. go k l (dec_le k H))
        where
          at : (k : ℕ) → ((i : ℕ) × (i < r.count) × (((place r i).first ≤ k) × (k ≤ (place r i).last))) ⊎ (f k ≡ no_pair)
              → Is (equal_sets (f k))
          at k (inl (i, l, (a, b))) = rw (pairs-in H n r ok i k l a b) ((places.0 h).1 i l)
          at k (inr e) = rw e tt

          go : (k : ℕ) → k < ages H → Dec (k ≤ H) → Is (equal_sets (f k))
          go k l (yes b) = at k (held_or_none H n r ok k b)
          go k l (no b) = let e : k ≡ suc H = omega arith in rw (e, pairs_at-above H r) (places.0 h).0

      from : Is (settled_at T f) → Is (settled_in r)
      from h = places.1 (
        rw (pairs_at-above H r) at (each (suc H) (omega arith)),
        λ i l.
            let x = ok.each i l in
            rw (pairs-in H n r ok i (place r i).last l x.order (omega arith)) at (each (place r i).last (omega arith)),
      )
        where
          each : (k : ℕ) → k < ages H → Is (equal_sets (f k))
          each = (all-iff (ages H) (λ k. equal_sets (f k))).0 h

-- for a code that asks the sure set first, then the possible one
pub ruleset verdicts = (said-yes, said-no, said-unsure)
