-- A configuration is in the set after w exactly if a run over w ends in it (`after_run`); so the word is accepted exactly if
-- that set accepts (`accepted-iff`). With no standing state a run over w is 001's, from the start of the stream
-- (`no_standing`). Assumes nothing.
use Prim.Native.Nat.{ℕ}
use mathlib.Core.Path.{◌≡◌, refl, sym, ap, ◌∙◌, subst}
use mathlib.Core.Logic.{◌↔◌, inl, inr}
use Rattle.base.specs.Masks.{Has}
use Rattle.base.proofs.Masks.{not_has_zero}
use Rattle.meaning.specs.Tables.{Table}
use Rattle.meaning.specs.Runs.{Symbol, letter, span, Word, empty, ◌▷◌, ◌⧺◌, Step, Run, stays, goes, Begins, RunOver, Accepted}
use Rattle.meaning.specs.Sets.{step, after, Initial, Accepts}

module _ (T : Table) where
  -- ---- from a run to the set

  begins-after : (u : Word) (p : ℕ) → Begins T u p → after T (Initial T) u p 0
  unfolding Begins after step
  begins-after empty p h = (refl, h)
  begins-after (u ▷ letter a) p h = inr (refl, h)
  begins-after (u ▷ span s) p h = absurd h

  run_after : (u : Word) (p : ℕ) → Begins T u p → {v : Word} {q t : ℕ} → Run T p 0 v q t → after T (Initial T) (u ⧺ v) q t
  unfolding after step
  run_after u p b stays = begins-after u p b
  run_after u p b (goes {x = letter a} {r = r} {v = t} run s) = inl (r, t, run_after u p b run, s)
  run_after u p b (goes {x = span a} {r = r} {v = t} run s) = (r, t, run_after u p b run, s)

  -- ---- from the set to a run

  -- a run with a step more
  on : {w : Word} {x : Symbol} {p t q u : ℕ} → RunOver T w p t → Step T x p t q u → RunOver T (w ▷ x) q u
  on {x = x} r s = record {
    before = r.before;
    rest = r.rest ▷ x;
    whole = ap (λ (w : Word). w ▷ x) r.whole;
    first = r.first;
    begins = r.begins;
    run = goes r.run s;
  }

  -- a run that has just begun
  fresh : (w : Word) (q : ℕ) → Begins T w q → RunOver T w q 0
  fresh w q b = record { before = w; rest = empty; whole = refl; first = q; begins = b; run = stays }

  after-over : (w : Word) (q t : ℕ) → after T (Initial T) w q t → RunOver T w q t
  unfolding after step Begins
  after-over empty q t h = subst (RunOver T empty q) (sym h.0) (fresh empty q h.1)
  after-over (w ▷ letter a) q t (inl (p, u, h, s)) = on (after-over w p u h) s
  after-over (w ▷ letter a) q t (inr h) = subst (RunOver T (w ▷ letter a) q) (sym h.0) (fresh (w ▷ letter a) q h.1)
  after-over (w ▷ span a) q t (p, u, h, s) = on (after-over w p u h) s

  pub after_run : (w : Word) (q t : ℕ) → after T (Initial T) w q t ↔ RunOver T w q t
  after_run w q t = (
    after-over w q t,
    λ r. subst (λ (w : Word). after T (Initial T) w q t) r.whole (run_after r.before r.first r.begins r.run),
  )

  pub accepted-iff : (w : Word) → Accepted T w ↔ Accepts T (after T (Initial T) w)
  accepted-iff w = (
    (λ h. (h.0, h.1, h.2, (after_run w h.0 h.1).1 h.3)),
    λ h. (h.0, h.1, h.2, (after_run w h.0 h.1).0 h.3),
  )

  -- ---- "With no standing state this is 001's definition."

  empty_before : (v : Word) → empty ⧺ v ≡ v
  empty_before empty = refl
  empty_before (v ▷ x) = ap (λ (w : Word). w ▷ x) (empty_before v)

  pub no_standing : T.standing ≡ 0 → (w : Word) (q t : ℕ) → RunOver T w q t ↔ ((p : ℕ) × Has T.initial p × Run T p 0 w q t)
  unfolding Begins
  no_standing none w q t = (
    (λ r. from_start r.before r.begins r.whole r.run),
    λ h. record { before = empty; rest = w; whole = empty_before w; first = h.0; begins = h.1; run = h.2 },
  )
    where
      from_start : (u : Word) {v : Word} {p : ℕ} → Begins T u p → u ⧺ v ≡ w → Run T p 0 v q t
          → (p : ℕ) × Has T.initial p × Run T p 0 w q t
      from_start empty {v} {p} b e r = (p, b, subst (λ (w : Word). Run T p 0 w q t) (sym (empty_before v) ∙ e) r)
      from_start (u ▷ letter a) {v} {p} b e r = absurd (not_has_zero p (subst (λ (m : ℕ). Has m p) none b))
      from_start (u ▷ span s) b e r = absurd b
