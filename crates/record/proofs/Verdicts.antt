-- What the verdict and `settled` say of the two sets that the pairs mean (`verdict_yes`, `verdict_no`, `settled_same`).
-- Hence demand 2, of pairs that mean what has become of a start (`start_yes`, `start_no`), and demand 3, of those that mean
-- what has become of a gap, said of every set that may have stood at its end (`gap_yes`, `gap_no`, `gap_unsure`, `gap_differ`,
-- `gap_settled`). Assumes nothing.
use Prim.Native.Nat.{ℕ}
use mathlib.Core.Path.{◌≡◌, refl, ap}
use mathlib.Core.Logic.Iff
use mathlib.Core.Logic.{◌↔◌, ◌≢◌}
use mathlib.Core.Bool.{Bool, true, false}
use native.Mathlib.Omega.{arith}
use lib.Dec.{T as Is, eqb}
use Rattle.base.proofs.Tests.{eqb_iff, all-iff}
use Rattle.meaning.specs.Tables.{Table, horizon}
use Rattle.meaning.specs.Runs.{Word, Accepted}
use Rattle.meaning.specs.Sets.{Confs, after, Accepts, Initial, Nothing, Everything, Over, Same}
use Rattle.meaning.specs.Ages.{ages, accepts_at}
use Rattle.meaning.proofs.Runs.{accepted-iff}
use Rattle.meaning.proofs.Sets.{accepts-mono, after-between, yes_iff, no_iff, settled_iff}
use Rattle.meaning.proofs.Ages.{accepts-means, settled_means}
use Rattle.record.specs.Pairs.{Pairs, sures, possibles}
use Rattle.record.specs.Verdicts.{Verdict, says_yes, says_no, unsure, decide, verdict_at, settled_at}
use Rattle.record.proofs.Pairs.{MeanBoth}

-- the three verdicts are three
code : Verdict → ℕ
code says_yes = 0
code says_no = 1
code unsure = 2

differ : (v w : Verdict) → code v ≢ code w → v ≢ w
differ v w n e = n (ap code e)

decide-yes : (s p : Bool) → (decide s p ≡ says_yes) ↔ Is s
unfolding code
decide-yes true p = ((λ e. tt), λ h. refl)
decide-yes false true = ((λ e. differ unsure says_yes (λ z. omega arith) e), λ h. absurd h)
decide-yes false false = ((λ e. differ says_no says_yes (λ z. omega arith) e), λ h. absurd h)

decide-no : (s p : Bool) → (Is s → Is p) → (decide s p ≡ says_no) ↔ (¬ Is p)
unfolding code
decide-no true p h = ((λ e. absurd (differ says_yes says_no (λ z. omega arith) e)), λ n. absurd (n (h tt)))
decide-no false true h = ((λ e. absurd (differ unsure says_no (λ z. omega arith) e)), λ n. absurd (n tt))
decide-no false false h = ((λ e z. z), λ n. refl)

decide-unsure : (s p : Bool) → (decide s p ≡ unsure) ↔ ((¬ Is s) × Is p)
unfolding code
decide-unsure true p = ((λ e. absurd (differ says_yes unsure (λ z. omega arith) e)), λ h. absurd (h.0 tt))
decide-unsure false true = ((λ e. ((λ z. z), tt)), λ h. refl)
decide-unsure false false = ((λ e. absurd (differ says_no unsure (λ z. omega arith) e)), λ h. absurd h.1)

-- "unsure otherwise"
pub unsure_iff : (v : Verdict) → (v ≡ unsure) ↔ ((v ≢ says_yes) × (v ≢ says_no))
unfolding code
unsure_iff says_yes = ((λ e. absurd (differ says_yes unsure (λ z. omega arith) e)), λ h. absurd (h.0 refl))
unsure_iff says_no = ((λ e. absurd (differ says_no unsure (λ z. omega arith) e)), λ h. absurd (h.1 refl))
unsure_iff unsure = ((λ e. (differ unsure says_yes (λ z. omega arith), differ unsure says_no (λ z. omega arith))), λ h. refl)

module _ (T : Table) (f : Pairs) (A B : Confs) (s : MeanBoth T f A B) where
  sure : Is (accepts_at T (sures f)) ↔ Accepts T A
  sure = accepts-means T (sures f) A s.sure

  possible : Is (accepts_at T (possibles f)) ↔ Accepts T B
  possible = accepts-means T (possibles f) B s.possible

  pub verdict_yes : (verdict_at T f ≡ says_yes) ↔ Accepts T A
  unfolding verdict_at
  verdict_yes = Iff.trans (decide-yes (accepts_at T (sures f)) (accepts_at T (possibles f))) sure

  pub verdict_no : (verdict_at T f ≡ says_no) ↔ (¬ Accepts T B)
  unfolding verdict_at
  verdict_no = Iff.trans (decide-no (accepts_at T (sures f)) (accepts_at T (possibles f)) sure_possible) (Iff.not possible)
    where
      sure_possible : Is (accepts_at T (sures f)) → Is (accepts_at T (possibles f))
      sure_possible h = possible.1 (accepts-mono T A B s.within (sure.0 h))

  pub verdict_unsure : (verdict_at T f ≡ unsure) ↔ ((¬ Accepts T A) × Accepts T B)
  unfolding verdict_at
  verdict_unsure = Iff.trans (decide-unsure (accepts_at T (sures f)) (accepts_at T (possibles f))) (Iff.and (Iff.not sure) possible)

  pub settled_same : Is (settled_at T f) ↔ Same (horizon T) A B
  unfolding settled_at
  settled_same = Iff.trans (all-iff (ages (horizon T)) (λ k. eqb (f k).sure (f k).possible))
      (Iff.trans ((λ h k l. (one k).0 (h k (omega arith))), λ h k l. (one k).1 (h k (omega arith)))
      (settled_means (horizon T) (sures f) (possibles f) A B s.sure s.possible))
    where
      one : (k : ℕ) → Is (eqb (f k).sure (f k).possible) ↔ ((f k).sure ≡ (f k).possible)
      one k = eqb_iff (f k).sure (f k).possible

-- ---- demand 2: with no gap since the start

-- the pairs f are what has become of a start after the word w: with nothing lost the sure set and the possible one are the same
abbrev pub SinceStart : Table → Word → Pairs → Type 0
SinceStart T w f = MeanBoth T f (after T (Initial T) w) (after T (Initial T) w)

module _ (T : Table) (w : Word) (f : Pairs) (s : SinceStart T w f) where
  abbrev start_set : Confs
  start_set = after T (Initial T) w

  -- yes exactly when some accepting run exists over the symbols
  pub start_yes : (verdict_at T f ≡ says_yes) ↔ Accepted T w
  start_yes = Iff.trans (verdict_yes T f start_set start_set s) (Iff.symm (accepted-iff T w))

  -- otherwise no
  pub start_no : (verdict_at T f ≡ says_no) ↔ (¬ Accepted T w)
  start_no = Iff.trans (verdict_no T f start_set start_set s) (Iff.not (Iff.symm (accepted-iff T w)))

  -- never unsure
  pub start_sure : verdict_at T f ≢ unsure
  start_sure e = let u = (unsure_iff (verdict_at T f)).0 e in u.1 (start_no.1 (λ h. u.0 (start_yes.1 h)))

  -- and always settled
  pub start_settled : Is (settled_at T f)
  start_settled = (settled_same T f start_set start_set s).1
      (record { low = λ q t l. ((λ h. h), λ h. h); beyond = λ q. ((λ h. h), λ h. h) })

-- ---- demand 3: after a gap, for every set S of configurations that may have stood at its end, the empty one too

-- the pairs f are what has become of a gap after the word w: between the two sets lie those that all sets S have become
abbrev pub SinceGap : Table → Word → Pairs → Type 0
SinceGap T w f = MeanBoth T f (after T Nothing w) (after T (Everything T) w)

module _ (T : Table) (w : Word) (f : Pairs) (s : SinceGap T w f) where
  abbrev least : Confs
  least = after T Nothing w

  abbrev greatest : Confs
  greatest = after T (Everything T) w

  -- yes exactly if the symbols since lead to acceptance from every such set
  pub gap_yes : (verdict_at T f ≡ says_yes) ↔ ((S : Confs) → Over T S → Accepts T (after T S w))
  gap_yes = Iff.trans (verdict_yes T f least greatest s) (Iff.symm (yes_iff T w))

  -- no exactly if from none
  pub gap_no : (verdict_at T f ≡ says_no) ↔ ((S : Confs) → Over T S → ¬ Accepts T (after T S w))
  gap_no = Iff.trans (verdict_no T f least greatest s) (Iff.symm (no_iff T w))

  -- unsure otherwise
  pub gap_unsure : (verdict_at T f ≡ unsure)
      ↔ ((¬ ((S : Confs) → Over T S → Accepts T (after T S w))) × (¬ ((S : Confs) → Over T S → ¬ Accepts T (after T S w))))
  gap_unsure = Iff.trans (unsure_iff (verdict_at T f)) (Iff.and (Iff.not gap_yes) (Iff.not gap_no))

  -- and then it goes by the set: one leads to acceptance and one does not
  pub gap_differ : (verdict_at T f ≡ unsure)
      ↔ (((S : Confs) × Over T S × Accepts T (after T S w)) × ((S : Confs) × Over T S × (¬ Accepts T (after T S w))))
  gap_differ = Iff.trans (verdict_unsure T f least greatest s) (to, from)
    where
      to : (¬ Accepts T least) × Accepts T greatest
          → ((S : Confs) × Over T S × Accepts T (after T S w)) × ((S : Confs) × Over T S × (¬ Accepts T (after T S w)))
      to (n, a) = ((Everything T, (λ q t h. h), a), (Nothing, (λ q t h. absurd h), n))

      from : ((S : Confs) × Over T S × Accepts T (after T S w)) × ((S : Confs) × Over T S × (¬ Accepts T (after T S w)))
          → (¬ Accepts T least) × Accepts T greatest
      from ((R, r, a), (S, o, n)) =
          ((λ h. n ((yes_iff T w).1 h S o)), accepts-mono T (after T R w) greatest (after-between T R r w).1 a)

  -- settled exactly if all those sets led to one and the same set, ages beyond the horizon counted as one
  pub gap_settled : Is (settled_at T f)
      ↔ ((R S : Confs) → Over T R → Over T S → Same (horizon T) (after T R w) (after T S w))
  gap_settled = Iff.trans (settled_same T f least greatest s) (Iff.symm (settled_iff T (horizon T) w))
