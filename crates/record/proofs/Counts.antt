-- How many stretches are needed: a start and a gap need at most one (`start_count`, `gap_count`), as they are one push
-- (`start_newest`, `gap_newest`), and a span never needs more than there were (`span_count`), since it moves the stretches of
-- the lowest ages up as they are. So only a letter can want for room. Assumes nothing.
use Prim.Native.Nat.{ℕ, zero, suc, ◌+◌, ◌-◌, ◌≤◌, ◌<◌}
use mathlib.Core.Path.{◌≡◌, refl, sym, ap, ap₂, ◌∙◌}
use mathlib.Core.List.{List, [], ◌∷◌, map}
use mathlib.Core.Bool.{Bool, true, false}
use native.Mathlib.Nat.{le_trans, le_of_eq, zero-add, suc-add, sub-add_cancel}
use native.Mathlib.Decide.{dec_le}
use native.Mathlib.Omega.{arith}
use lib.Dec.{eqb, eqb-suc-zero}
use lib.ListN.{length, length-map, length-reverse}
use Rattle.base.specs.Masks.{pick}
use Rattle.base.proofs.Tests.{bool_ext}
use Rattle.meaning.specs.Tables.{Table, horizon}
use Rattle.meaning.specs.Runs.{span}
use Rattle.meaning.specs.Ages.{span_at, step_at}
use Rattle.meaning.proofs.Ages.{span_moved, span_gone}
use Rattle.record.specs.declared.Pair.{Pair}
use Rattle.record.specs.declared.Stretch.{Stretch}
use Rattle.record.specs.Pairs.{Pairs, sures, possibles, start_pairs, gap_pairs, step_pairs}
use Rattle.record.specs.Stretches.{touches, put_if, put, push_if, push, newest, stretches_of}
use Rattle.record.proofs.Stretches.{pair_ext, touches-iff, newest-run, newest-skip, push-length, newest-length}

-- ---- a start and a gap

pub start_newest : (T : Table) (H : ℕ) → newest (suc H) (start_pairs T) ≡ push [] 0 0 (start_pairs T 0)
unfolding start_pairs newest
start_newest T H = newest-skip (start_pairs T) 1 (suc H) (omega arith) later
  where
    later : (k : ℕ) → 1 ≤ k → k < suc H → (start_pairs T k).possible ≡ 0
    later (suc k) l m = ap (λ (t : Bool). pick t T.initial) (eqb-suc-zero k)
    later zero l m = absurd (let z : ⊥ = omega arith in z)

pub start_count : (T : Table) (H : ℕ) → length (stretches_of H (start_pairs T)) ≤ 1
start_count T H = rw (length-reverse (newest (suc H) (start_pairs T)), start_newest T H) (push-length [] 0 0 (start_pairs T 0)).1

pub gap_newest : (T : Table) (H : ℕ) → newest (suc H) (gap_pairs T) ≡ push [] 0 H (gap_pairs T 0)
unfolding gap_pairs newest
gap_newest T H = newest-run (gap_pairs T) 0 H (gap_pairs T 0) (omega arith) (λ k l m. refl)

pub gap_count : (T : Table) (H : ℕ) → length (stretches_of H (gap_pairs T)) ≤ 1
gap_count T H = rw (length-reverse (newest (suc H) (gap_pairs T)), gap_newest T H) (push-length [] 0 H (gap_pairs T 0)).1

-- ---- a span

-- the stretch once s seconds have passed
abbrev pub later : ℕ → Stretch → Stretch
later s x = record { first = x.first + s; last = x.last + s; pair = x.pair }

touches-later : (s : ℕ) (x : Stretch) (a : ℕ) (p : Pair) → touches (later s x) (a + s) p ≡ touches x a p
touches-later s x a p = bool_ext _ _ (
  (λ h. let e = (touches-iff (later s x) (a + s) p).0 h in (touches-iff x a p).1 (omega (arith, e.0), e.1)),
  λ h. let e = (touches-iff x a p).0 h in (touches-iff (later s x) (a + s) p).1 (omega (arith, e.0), e.1),
)

map_push : (s : ℕ) (L : List Stretch) (a b : ℕ) (p : Pair)
    → push (map (later s) L) (a + s) (b + s) p ≡ map (later s) (push L a b p)
unfolding push
map_push s L a b p = go (eqb p.possible 0)
  where
    put-later : (L : List Stretch) → put (map (later s) L) (a + s) (b + s) p ≡ map (later s) (put L a b p)
    put-later [] = refl
    put-later (x ∷ xs) =
        ap (λ (t : Bool). put_if t (later s x) (map (later s) xs) (a + s) (b + s) p) (touches-later s x a p)
        ∙ two (touches x a p)
      where
        two : (t : Bool) → put_if t (later s x) (map (later s) xs) (a + s) (b + s) p ≡ map (later s) (put_if t x xs a b p)
        two true = refl
        two false = refl

    go : (t : Bool) → push_if t (map (later s) L) (a + s) (b + s) p ≡ map (later s) (push_if t L a b p)
    go true = refl
    go false = put-later L

-- where g is f moved up by s, the stretches of g are those of f moved up
pub newest-later : (s n : ℕ) (f g : Pairs)
    → ((k : ℕ) → k < s → (g k).possible ≡ 0) → ((k : ℕ) → k < n → g (k + s) ≡ f k)
    → newest (n + s) g ≡ map (later s) (newest n f)
unfolding newest
newest-later s zero f g h e = rw zero-add (newest-skip g 0 s (omega arith) (λ k l u. h k u))
newest-later s (suc n) f g h e = rw suc-add (
    let ih = newest-later s n f g h (λ k l. e k (omega arith)) in
    ap₂ (λ (L : List Stretch) (p : Pair). push L (n + s) (n + s) p) ih (e n (omega arith))
    ∙ map_push s (newest n f) n n (f n))

pub span_count : (T : Table) (s : ℕ) (f : Pairs)
    → length (stretches_of (horizon T) (step_pairs T (span s) f)) ≤ length (stretches_of (horizon T) f)
unfolding step_pairs step_at newest
span_count T s f = rw (length-reverse (newest (suc H) g), length-reverse (newest (suc H) f)) (go (dec_le s (suc H)))
  where
    H : ℕ
    H = horizon T

    g : Pairs
    g = step_pairs T (span s) f

    gone : (k : ℕ) → k ≤ H → k < s → (g k).possible ≡ 0
    gone k l m = span_gone H s (possibles f) k l m

    go : Dec (s ≤ suc H) → length (newest (suc H) g) ≤ length (newest (suc H) f)
    go (yes l) = le_trans
        (le_of_eq (ap length same ∙ length-map (newest n f) (later s)))
        (newest-length f n (suc H) (omega arith))
      where
        n : ℕ
        n = suc H - s

        moved : (h : ℕ → ℕ) (k : ℕ) → k < n → span_at H s h (k + s) ≡ h k
        moved h k b = span_moved H s h (k + s) (omega arith) (omega arith) ∙ ap h (omega arith)

        pairs : (k : ℕ) → k < n → g (k + s) ≡ f k
        pairs k b = pair_ext (g (k + s)) (f k) (moved (sures f) k b) (moved (possibles f) k b)

        same : newest (suc H) g ≡ map (later s) (newest n f)
        same =
            ap (λ (m : ℕ). newest m g) (sym (sub-add_cancel l))
            ∙ newest-later s n f g (λ k b. gone k (omega arith) b) pairs
    go (no d) = rw (newest-skip g 0 (suc H) (omega arith) (λ k l b. gone k (omega arith) (omega arith))) (omega arith)
