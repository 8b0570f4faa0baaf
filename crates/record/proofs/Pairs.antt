-- Pairs by age mean two sets of configurations, the sure and the possible (`MeanBoth`): at a start, at a gap, and after
-- every symbol (`start_means`, `gap_means`, `steps_mean`). Such pairs are proper ones (`means-ok`), and so a
-- start, a gap and every symbol leave proper ones (`start_ok`, `gap_ok`, `step_ok`). Assumes nothing.
use Prim.Native.Nat.{ℕ, suc, ◌≤◌}
use mathlib.Core.Path.{◌≡◌, sym, subst}
use mathlib.Core.Logic.{◌↔◌}
use native.Mathlib.Omega.{arith}
use Rattle.base.specs.Masks.{Has}
use Rattle.base.proofs.Masks.{has-below, below_has}
use Rattle.meaning.specs.Tables.{Table, horizon}
use Rattle.meaning.specs.Runs.{Symbol}
use Rattle.meaning.specs.Sets.{Confs, Within, step, Initial, Nothing, Everything, Over}
use Rattle.meaning.specs.Ages.{clip, Clipped, Means}
use Rattle.meaning.proofs.Sets.{step-mono, Closed, step-over, initial-over}
use Rattle.meaning.proofs.Ages.{step-means, initial-means, nothing-means, everything-means}
use Rattle.record.specs.declared.Pair.{Pair}
use Rattle.record.specs.Pairs.{Pairs, sures, possibles, start_pairs, gap_pairs, step_pairs}
use Rattle.record.specs.Records.{PairOk}

-- the pairs f mean the sure set A and the possible set B, of which A is part
pub record MeanBoth (T : Table) (f : Pairs) (A B : Confs) : Type 0 where
  pub sure : Means (horizon T) (sures f) A
  pub possible : Means (horizon T) (possibles f) B
  pub within : Within A B

-- only the ages 0 to H + 1 are looked at
pub mean_cong : (T : Table) (f g : Pairs) (A B : Confs) → ((k : ℕ) → k ≤ suc (horizon T) → f k ≡ g k)
    → MeanBoth T f A B → MeanBoth T g A B
mean_cong T f g A B e m = record {
  sure = λ q k l. subst (λ (p : Pair). Has p.sure q ↔ Clipped (horizon T) A q k) (e k l) (m.sure q k l);
  possible = λ q k l. subst (λ (p : Pair). Has p.possible q ↔ Clipped (horizon T) B q k) (e k l) (m.possible q k l);
  within = m.within;
}

module _ (T : Table) where
  pub start_means : MeanBoth T (start_pairs T) (Initial T) (Initial T)
  unfolding start_pairs
  start_means = record {
    sure = initial-means T (horizon T);
    possible = initial-means T (horizon T);
    within = λ q t h. h;
  }

  pub gap_means : MeanBoth T (gap_pairs T) Nothing (Everything T)
  unfolding gap_pairs
  gap_means = record {
    sure = nothing-means (horizon T);
    possible = everything-means T (horizon T);
    within = λ q t z. absurd z;
  }

  pub steps_mean : (x : Symbol) (f : Pairs) (A B : Confs) → MeanBoth T f A B
      → MeanBoth T (step_pairs T x f) (step T x A) (step T x B)
  unfolding step_pairs
  steps_mean x f A B s = record {
    sure = step-means T x (sures f) A s.sure;
    possible = step-means T x (possibles f) B s.possible;
    within = step-mono T x A B s.within;
  }

  -- every pair of f is a proper one
  abbrev pub Ok : Pairs → Type 0
  Ok f = (k : ℕ) → k ≤ suc (horizon T) → PairOk T.states (f k)

  -- pairs that mean sets over the n states are proper ones
  pub means-ok : (f : Pairs) (A B : Confs) → MeanBoth T f A B → Over T B → Ok f
  means-ok f A B s o k l = record {
    part = λ q h. (s.possible q k l).1 (let c = (s.sure q k l).0 h in (c.0, c.1, s.within q c.0 c.2));
    small = below_has T.states (f k).possible (λ q h. let c = (s.possible q k l).0 h in o q c.0 c.2);
  }

  -- ---- proper pairs stay proper

  -- the largest set that the masks f mean: at every age above H what f has at H + 1
  abbrev Full : (ℕ → ℕ) → Confs
  Full f q t = Has (f (clip (horizon T) t)) q

  full_means : (f : ℕ → ℕ) → Means (horizon T) f (Full f)
  full_means f q k l = (
    (λ h. let z : k ≡ clip (horizon T) k = omega arith in (k, sym z, subst (λ (x : ℕ). Has (f x) q) z h)),
    λ h. subst (λ (x : ℕ). Has (f x) q) h.1 h.2,
  )

  pub step_ok : Closed T → (x : Symbol) (f : Pairs) → Ok f → Ok (step_pairs T x f)
  step_ok c x f ok = means-ok (step_pairs T x f) (step T x A) (step T x B) (steps_mean x f A B means) (step-over T c x B over)
    where
      A : Confs
      A = Full (sures f)

      B : Confs
      B = Full (possibles f)

      means : MeanBoth T f A B
      means = record {
        sure = full_means (sures f);
        possible = full_means (possibles f);
        within = λ q t h. (ok (clip (horizon T) t) (omega arith)).part q h;
      }

      over : Over T B
      over q t h = has-below T.states (f (clip (horizon T) t)).possible q (ok (clip (horizon T) t) (omega arith)).small h

  pub start_ok : Closed T → Ok (start_pairs T)
  start_ok c = means-ok (start_pairs T) (Initial T) (Initial T) start_means (initial-over T c)

  pub gap_ok : Ok (gap_pairs T)
  gap_ok = means-ok (gap_pairs T) Nothing (Everything T) gap_means (λ q t h. h)
