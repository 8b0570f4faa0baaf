-- Symbols keep inclusion (`after-mono`), so that whatever set stood at a gap's end, the set after it lies between that of the
-- empty set and that of all configurations (`after-between`). Hence what demand 3 asks of every set is asked of these two:
-- `yes_iff`, `no_iff`, `settled_iff`. A set over the n states stays one (`step-over`, `after-closed`). Assumes nothing.
use Prim.Native.Nat.{ℕ, ◌^◌, ◌<◌}
use mathlib.Core.Path.{◌≡◌, refl, ap, subst}
use mathlib.Core.Logic.Iff
use mathlib.Core.Logic.{◌↔◌, inl, inr}
use Rattle.base.proofs.Masks.{has-below}
use Rattle.meaning.specs.Tables.{Table}
use Rattle.meaning.specs.Runs.{Symbol, letter, span, Word, empty, ◌▷◌, ◌⧺◌, Step}
use Rattle.meaning.specs.Sets.{Confs, Within, Taken, step, after, Accepts, Initial, Nothing, Everything, Over, Beyond, Same}

-- the same, the other way round
pub same-sym : {H : ℕ} {A B : Confs} → Same H A B → Same H B A
same-sym s = record { low = λ q t l. Iff.symm (s.low q t l); beyond = λ q. Iff.symm (s.beyond q) }

module _ (T : Table) where
  taken_mono : (x : Symbol) (A B : Confs) → Within A B → Within (Taken T x A) (Taken T x B)
  taken_mono x A B h q u (p, t, k, s) = (p, t, h p t k, s)

  pub step-mono : (x : Symbol) (A B : Confs) → Within A B → Within (step T x A) (step T x B)
  unfolding step
  step-mono (letter a) A B h q u (inl k) = inl (taken_mono (letter a) A B h q u k)
  step-mono (letter a) A B h q u (inr k) = inr k
  step-mono (span s) A B h q u k = taken_mono (span s) A B h q u k

  pub after-mono : (A B : Confs) → Within A B → (w : Word) → Within (after T A w) (after T B w)
  unfolding after
  after-mono A B h empty = h
  after-mono A B h (w ▷ x) = step-mono x (after T A w) (after T B w) (after-mono A B h w)

  pub accepts-mono : (A B : Confs) → Within A B → Accepts T A → Accepts T B
  accepts-mono A B h (q, t, a, k) = (q, t, a, h q t k)

  nothing-within : (S : Confs) → Within Nothing S
  nothing-within S q t z = absurd z

  -- for every set S at a gap's end
  pub after-between : (S : Confs) → Over T S → (w : Word)
      → Within (after T Nothing w) (after T S w) × Within (after T S w) (after T (Everything T) w)
  after-between S o w = (after-mono Nothing S (nothing-within S) w, after-mono S (Everything T) o w)

  -- ---- what is so of every set S that may have stood at a gap's end

  pub yes_iff : (w : Word) → ((S : Confs) → Over T S → Accepts T (after T S w)) ↔ Accepts T (after T Nothing w)
  yes_iff w = (
    (λ h. h Nothing (nothing-within (Everything T))),
    λ h S o. accepts-mono (after T Nothing w) (after T S w) (after-between S o w).0 h,
  )

  pub no_iff : (w : Word) → ((S : Confs) → Over T S → ¬ Accepts T (after T S w)) ↔ (¬ Accepts T (after T (Everything T) w))
  no_iff w = (
    (λ h. h (Everything T) (λ q t k. k)),
    λ h S o k. h (accepts-mono (after T S w) (after T (Everything T) w) (after-between S o w).1 k),
  )

  pub settled_iff : (H : ℕ) (w : Word)
      → ((R S : Confs) → Over T R → Over T S → Same H (after T R w) (after T S w))
      ↔ Same H (after T Nothing w) (after T (Everything T) w)
  settled_iff H w = (
    (λ h. h Nothing (Everything T) (nothing-within (Everything T)) (λ q t k. k)),
    λ e R S r s. same-trans (same-sym (one e R r)) (one e S s),
  )
    where
      beyond-mono : (A B : Confs) → Within A B → (q : ℕ) → Beyond H A q → Beyond H B q
      beyond-mono A B h q (t, l, k) = (t, l, h q t k)

      -- a set between two that are the same is the same
      between : (A X B : Confs) → Within A X → Within X B → Same H A B → Same H A X
      between A X B f g s = record {
        low = λ q t l. (f q t, λ x. (s.low q t l).1 (g q t x));
        beyond = λ q. (beyond-mono A X f q, λ x. (s.beyond q).1 (beyond-mono X B g q x));
      }

      same-trans : {A B C : Confs} → Same H A B → Same H B C → Same H A C
      same-trans s r = record {
        low = λ q t l. Iff.trans (s.low q t l) (r.low q t l);
        beyond = λ q. Iff.trans (s.beyond q) (r.beyond q);
      }

      one : Same H (after T Nothing w) (after T (Everything T) w)
          → (S : Confs) → Over T S → Same H (after T Nothing w) (after T S w)
      one e S o = let b = after-between S o w in
          between (after T Nothing w) (after T S w) (after T (Everything T) w) b.0 b.1 e

-- ---- the n states

-- no start and no line leads out of the n states
pub record Closed (T : Table) : Type 0 where
  pub initial : T.initial < 2 ^ T.states
  pub standing : T.standing < 2 ^ T.states
  pub to : (i : ℕ) → i < T.lines → (T.line i).to < T.states

pub step-over : (T : Table) → Closed T → (x : Symbol) (S : Confs) → Over T S → Over T (step T x S)
unfolding step Step
step-over T c (letter a) S o q u (inl (p, t, h, s)) = subst (λ (q : ℕ). q < T.states) s.enters (c.to s.index s.listed)
step-over T c (letter a) S o q u (inr h) = has-below T.states T.standing q c.standing h.1
step-over T c (span s) S o q u (p, t, h, (same, aged)) = subst (λ (q : ℕ). q < T.states) same (o p t h)

pub after-closed : (T : Table) → Closed T → (S : Confs) → Over T S → (w : Word) → Over T (after T S w)
unfolding after
after-closed T c S o empty = o
after-closed T c S o (w ▷ x) = step-over T c x (after T S w) (after-closed T c S o w)

pub initial-over : (T : Table) → Closed T → Over T (Initial T)
initial-over T c q t h = has-below T.states T.initial q c.initial h.1

-- ---- one word behind another

pub after-joined : (T : Table) (S : Confs) (u w : Word) → after T S (u ⧺ w) ≡ after T (after T S u) w
unfolding after
after-joined T S u empty = refl
after-joined T S u (w ▷ x) = ap (step T x) (after-joined T S u w)
