-- A table that earns no number is sound, and a sound table earns none (`sound-iff`). Then what a sound table gives a caller:
-- its horizon is no more than the longest age, every line is there, and nothing leads out of its states. Callers cite these
-- and open none of the checks. Assumes nothing.
use Prim.Native.Nat.{ℕ, ◌+◌, ◌*◌, ◌≤◌, ◌<◌}
use mathlib.Core.Path.{◌≡◌}
use mathlib.Core.Logic.Iff
use mathlib.Core.Logic.{◌↔◌, ◌⊎◌, inl, inr}
use mathlib.Core.List.{List}
use mathlib.Core.Bool.{not}
use native.Mathlib.Decide.{ℕ_discrete}
use native.Mathlib.Omega.{arith}
use lib.Dec.{T as Is, eqb, ltb}
use lib.ListN.{length}
use borrow.Author.Tests.{eq-eqb, ne_eqb}
use Rattle.base.proofs.Tests.{ltb_iff, ne_iff, and_iff}
use Rattle.base.proofs.Checks.{Fails, Passes, ◌or◌, ◌and_then◌, check, each, below, at_most, not_zero, equal, within}
use Rattle.base.proofs.Masks.{most-le}
use Rattle.table.specs.declared.Head.{Head}
use Rattle.table.specs.declared.Line.{Line}
use Rattle.table.specs.Table.{head_of, line_at}
use Rattle.meaning.specs.Tables.{no_bound, line_top, table_of, horizon}
use Rattle.meaning.proofs.Sets.{Closed}
use Rattle.faults.specs.Faults.{longest_age, bad_counts, bad_length, bad_masks, bad_parts, bad_greatest, bad_ages, line_fault, table_fault}
use Rattle.faults.specs.Sound.{SoundLine, Sound}

-- ---- what a greatest age says where its test fails

bounded : (u : ℕ) → Fails (bad_greatest u) ((u ≡ no_bound) ⊎ (u ≤ longest_age))
bounded u = record { iff = (to (ℕ_discrete u no_bound), from) }
  where
    past : Is (bad_greatest u) ↔ ((longest_age < u) × ¬ (u ≡ no_bound))
    past = and_iff (ltb longest_age u) (not (eqb u no_bound)) (ltb_iff longest_age u)
        (ne_iff u no_bound)

    to : Dec (u ≡ no_bound) → ¬ Is (bad_greatest u) → (u ≡ no_bound) ⊎ (u ≤ longest_age)
    to (yes e) h = inl e
    to (no d) h = inr (let n : ¬ (longest_age < u) = λ l. h (past.1 (l, d)) in omega arith)

    from : (u ≡ no_bound) ⊎ (u ≤ longest_age) → ¬ Is (bad_greatest u)
    from (inl e) t = (past.0 t).1 e
    from (inr l) t = omega (arith, (past.0 t).0)

-- ---- the checks in their order

line_passes : (h : Head) (l : Line) → Passes (line_fault h l) (SoundLine h l)
unfolding line_fault bad_parts bad_ages
line_passes h l =
    let ends = below h.states l.from or below h.states l.to in
    let parts = ends or below h.letters l.letter or at_most 1 l.flags in
    let ages = at_most longest_age l.least or bounded l.greatest or at_most l.greatest l.least in
    let checks = check 5 parts and_then check 6 ages in
    record { iff = Iff.trans checks.iff ((λ e. search), λ s. search) }

-- no number is given just where none of the cases of 1 to 7 is met
pub sound-iff : (b : List ℕ) → (table_fault b ≡ 0) ↔ Sound b
unfolding table_fault bad_counts bad_length bad_masks
sound-iff b =
    let h = head_of b in
    let short = at_most (length b) 12 in
    let version = equal h.version 1 in
    let states = not_zero h.states or at_most 16 h.states in
    let counts = states or not_zero h.letters or at_most 32 h.letters or at_most 64 h.lines in
    let lengths = equal h.length (12 + 12 * h.lines) or equal h.length (length b) in
    let masks = within h.states h.initial or within h.states h.standing or within h.states h.accepting in
    let lines = each h.lines (λ k. line_passes h (line_at b k)) in
    let behind = check 3 lengths and_then check 4 masks and_then lines in
    let checks = check 0 short and_then check 1 version and_then check 2 counts and_then behind in
    Iff.trans checks.iff ((λ e. search), λ s. search)

-- ---- what a caller gets of a sound table

line_top-le : (h : Head) (l : Line) → SoundLine h l → line_top l ≤ longest_age
line_top-le h l s = go s.top
  where
    go : (l.greatest ≡ no_bound) ⊎ (l.greatest ≤ longest_age) → line_top l ≤ longest_age
    go (inl e) = rw (eq-eqb l.greatest no_bound e) (omega arith)
    go (inr le) = rw (ne_eqb l.greatest no_bound (λ e. omega arith)) (omega arith)

-- "the largest L or finite U in any line" is no more than the longest age
pub sound-horizon : (b : List ℕ) → Sound b → horizon (table_of b) ≤ longest_age
unfolding horizon table_of
sound-horizon b s = most-le (head_of b).lines (λ k. line_top (line_at b k)) longest_age
    (λ k l. line_top-le (head_of b) (line_at b k) (s.line k l))

-- the bytes of line k, up to its last, are there
pub sound_line-there : (b : List ℕ) → Sound b → (k : ℕ) → k < (head_of b).lines → 24 + 12 * k ≤ length b
sound_line-there b s k l = omega arith

-- no start and no line leads out of the n states
pub sound-closed : (b : List ℕ) → Sound b → Closed (table_of b)
unfolding table_of
sound-closed b s = record { initial = s.initial; standing = s.standing; to = λ i l. (s.line i l).to }
