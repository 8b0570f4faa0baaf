-- The definitions on the table of document 01, One session, whole, and on one more table: horizons and ends of ages, a run
-- written out, words that are accepted and one that is not, and two readings that look right and come out different. Assumes
-- nothing.
use Prim.Native.Nat.{ℕ, ◌≤◌}
use mathlib.Core.Path.{◌≡◌, refl}
use mathlib.Core.Logic.Iff
use mathlib.Core.Logic.{◌↔◌, inl, inr}
use mathlib.Core.List.{List, [], ◌∷◌, ◌++◌}
use mathlib.Core.Bool.{true, false, cond}
use native.Mathlib.Omega.{arith}
use lib.Bits.{bit_or}
use lib.Dec.{T as Is, eqb, leb}
use lib.ListN.{set, take, drop}
use Rattle.base.specs.Masks.{Has, hasb, pick, union, most}
use Rattle.table.specs.Table.{head_of, line_at}
use Rattle.table.proofs.Cases.{board-table}
use Rattle.meaning.specs.Tables.{Table, table_of, Meets, horizon, accepting_at}
use Rattle.meaning.specs.Runs.{letter, span, Word, empty, ◌▷◌, Follows, Step, Run, stays, goes, Begins, Accepted}
use Rattle.meaning.specs.Ages.{image, fresh_at, letter_at, passed_at, span_at, step_at, after_at, initial_at, nothing_at, accepts_at}
use Rattle.meaning.proofs.Runs.{accepted-iff}
use Rattle.meaning.proofs.Ages.{after-means, initial-means, accepts-means}

-- letters 0 refreshed, 1 look; states 0 waiting (initial, standing), 1 fresh (accepting)
unfoldable pub board : Table
board = table_of board-table

-- of both its lines, and of line 0 alone, which has no upper bound
pub board-horizon : (horizon board ≡ 5) × (horizon (table_of (set board-table 11 1)) ≡ 0)
unfolding board table_of horizon most head_of line_at
board-horizon = (refl, refl)

-- no byte at all, and so no line
pub horizon-without_lines : horizon (table_of []) ≡ 0
unfolding table_of horizon most head_of line_at
horizon-without_lines = refl

-- both ends of "ages 0 to 5" are in, and 6 is out
pub look_at_5 : Meets (board.line 1) 5
unfolding board table_of line_at
look_at_5 = (omega arith, inr (omega arith))

pub look_not_at_6 : ¬ Meets (board.line 1) 6
unfolding board table_of line_at
look_not_at_6 (l, inl e) = omega arith
look_not_at_6 (l, inr e) = omega arith

-- One more table, for what that one lacks: a least age above 0, an age that is kept without upper bound, two lines for one state
-- and letter, a state that stands and is not initial. Letters 0 start, 1 check; states 0 idle (initial), 1 primed (standing),
-- 2 running (accepting).
--
--     idle    -- start, any age, kept -----> primed      idle   -- start, ages 2 to 4, reset --> running
--     primed  -- check, ages 3 on, kept ---> running     primed -- check, ages 0 to 1, reset --> idle
--     running -- start, ages 0 to 6, kept -> running
abbrev pub pump-table : List ℕ
pump-table =
    (1 ∷ 0 ∷ 72 ∷ 3 ∷ 2 ∷ 0 ∷ 1 ∷ 0 ∷ 2 ∷ 0 ∷ 4 ∷ 5 ∷ [])
    ++ (0 ∷ 0 ∷ 1 ∷ 0 ∷ 0 ∷ 0 ∷ 0 ∷ 0 ∷ 255 ∷ 255 ∷ 255 ∷ 255 ∷ [])
    ++ (0 ∷ 0 ∷ 2 ∷ 1 ∷ 0 ∷ 0 ∷ 0 ∷ 2 ∷ 0 ∷ 0 ∷ 0 ∷ 4 ∷ [])
    ++ (1 ∷ 1 ∷ 2 ∷ 0 ∷ 0 ∷ 0 ∷ 0 ∷ 3 ∷ 255 ∷ 255 ∷ 255 ∷ 255 ∷ [])
    ++ (1 ∷ 1 ∷ 0 ∷ 1 ∷ 0 ∷ 0 ∷ 0 ∷ 0 ∷ 0 ∷ 0 ∷ 0 ∷ 1 ∷ [])
    ++ (2 ∷ 0 ∷ 2 ∷ 0 ∷ 0 ∷ 0 ∷ 0 ∷ 0 ∷ 0 ∷ 0 ∷ 0 ∷ 6 ∷ [])

unfoldable pub pump : Table
pump = table_of pump-table

-- the whole table; its first three lines, of which a greatest age of 4 is the largest bound; a table of line 2 alone, from the
-- age 3 on without upper bound
pub pump-horizons : (horizon pump ≡ 6) × (horizon (table_of (set pump-table 11 3)) ≡ 4)
    × (horizon (table_of (set (take 12 pump-table) 11 1 ++ take 12 (drop 36 pump-table))) ≡ 3)
unfolding pump table_of horizon most head_of line_at
pump-horizons = (refl, refl, refl)

-- from the age 2 on, and not at 1
pub start_at_2 : Meets (pump.line 1) 2
unfolding pump table_of line_at
start_at_2 = (omega arith, inr (omega arith))

pub start_not_at_1 : ¬ Meets (pump.line 1) 1
unfolding pump table_of line_at
start_not_at_1 (l, u) = omega arith

-- without upper bound any age will do, also one above what 4 bytes can hold
pub check_at_any_age_from_3 : Meets (pump.line 2) 5000000000 × (¬ Meets (pump.line 2) 2)
unfolding pump table_of line_at
check_at_any_age_from_3 = ((omega arith, inl refl), λ m. let l : 3 ≤ 2 = m.0 in omega arith)

-- ---- runs

-- refreshed, 5 seconds, look
abbrev pub looked : Word
looked = empty ▷ letter 0 ▷ span 5 ▷ letter 1

-- (0, 0), by line 0 to (1, 0), after 5 seconds (1, 5), by line 1 to (1, 5)
pub looked-run : Run board 0 0 looked 1 5
unfolding board table_of head_of line_at Step
looked-run = goes (goes (goes stays refreshed) waited) look
  where
    refreshed : Follows board 0 0 0 1 0
    refreshed = record {
      index = 0;
      listed = omega arith;
      bears = refl;
      leaves = refl;
      meets = (omega arith, inl refl);
      enters = refl;
      aged = refl;
    }

    waited : Step board (span 5) 1 0 1 5
    waited = (refl, refl)

    look : Follows board 1 1 5 1 5
    look = record {
      index = 1;
      listed = omega arith;
      bears = refl;
      leaves = refl;
      meets = (omega arith, inr (omega arith));
      enters = refl;
      aged = refl;
    }

-- it begins at the start of the stream in state 0, which is initial, and ends in state 1, which accepts
pub looked-accepted : Accepted board looked
unfolding board table_of head_of line_at Begins Has accepting_at
looked-accepted = (1, 5, refl, record { before = empty; rest = looked; whole = refl; first = 0; begins = refl; run = looked-run })

-- a word is accepted exactly if what its symbols make of the initial states accepts, which computes
pub accepted-computes : (T : Table) (w : Word) → Is (accepts_at T (after_at T (initial_at T) w)) ↔ Accepted T w
accepted-computes T w = Iff.trans
    (accepts-means T (after_at T (initial_at T) w) _ (after-means T (initial_at T) _ (initial-means T (horizon T)) w))
    (Iff.symm (accepted-iff T w))

-- a look after 6 seconds finds nothing fresh
pub late_look_not_accepted : ¬ Accepted board (empty ▷ letter 0 ▷ span 6 ▷ letter 1)
unfolding board table_of head_of line_at horizon most accepting_at hasb union image fresh_at letter_at passed_at span_at step_at
    after_at accepts_at
late_look_not_accepted h = (accepted-computes board (empty ▷ letter 0 ▷ span 6 ▷ letter 1)).1 h

-- waiting is standing: a run begins directly after any letter, here after the first look
pub begun_after_a_look : Accepted board (empty ▷ letter 1 ▷ letter 0)
unfolding board table_of head_of line_at horizon most accepting_at hasb union image fresh_at letter_at passed_at span_at step_at
    after_at accepts_at
begun_after_a_look = (accepted-computes board (empty ▷ letter 1 ▷ letter 0)).0 tt

-- ---- two readings that look right (document 01, Readings that look right)

-- the standing states stepped before the letter
unfoldable pub standing_first : Table → ℕ → (ℕ → ℕ) → ℕ → ℕ
standing_first T a f = letter_at T a (λ k. bit_or (f k) (pick (eqb k 0) T.standing))

-- after a gap nothing is sure, and one refreshed makes nothing sure but waiting; stepped first, it would make a false yes
pub standing-after-the-letter :
    (accepts_at board (step_at board (letter 0) nothing_at) ≡ false)
    × (accepts_at board (standing_first board 0 nothing_at) ≡ true)
unfolding standing_first board table_of head_of line_at horizon most accepting_at hasb union image fresh_at letter_at passed_at span_at
    step_at accepts_at
standing-after-the-letter = (refl, refl)

-- a configuration dropped when its age passes H: above H only what was there already
unfoldable pub dropped_above : Table → ℕ → (ℕ → ℕ) → ℕ → ℕ
dropped_above T s f k = cond (leb k (horizon T)) (span_at (horizon T) s f k) (f k)

-- refreshed, 6 seconds: still fresh, as state 1 accepts at any age; dropped, it would be a false no
pub kept-above-the-horizon :
    (accepts_at board (step_at board (span 6) (step_at board (letter 0) (initial_at board))) ≡ true)
    × (accepts_at board (dropped_above board 6 (step_at board (letter 0) (initial_at board))) ≡ false)
unfolding dropped_above board table_of head_of line_at horizon most accepting_at hasb union image fresh_at letter_at passed_at span_at
    step_at accepts_at
kept-above-the-horizon = (refl, refl)
