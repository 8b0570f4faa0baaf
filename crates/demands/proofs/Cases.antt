-- The definitions at work: which check fails first, how many stretches there are, two streams of the board's table (document
-- 01, One session, whole) with what the demands say of them, and two tables on which a looser demand 3 would differ. Assumes
-- nothing.
use Prim.Native.Nat.{ℕ, zero, suc, ◌+◌, ◌≤◌, ◌<◌}
use Rattle.std.proofs.Common.{Ok}
use mathlib.Core.Path.{◌≡◌, refl}
use mathlib.Core.Logic.{◌⊎◌, inl, inr}
use native.Mathlib.Omega.{arith}
use mathlib.Core.List.{List, [], ◌∷◌, ◌++◌}
use lib.ListN.{take, set}
use Rattle.base.specs.Masks.{Has, hasb, union, most, all}
use Rattle.base.specs.Checks.{first_of}
use Rattle.table.specs.Table.{head_of, line_at}
use Rattle.table.proofs.Cases.{board-table}
use Rattle.meaning.specs.Tables.{Table, table_of, horizon, accepting_at}
use Rattle.meaning.specs.Runs.{letter, span, Word, empty, ◌▷◌, ◌⧺◌, Follows, Step, Accepted}
use Rattle.meaning.specs.Sets.{Confs, Taken, step, after, Accepts, Nothing, Everything, Over}
use Rattle.meaning.specs.Ages.{image, fresh_at, letter_at, passed_at, span_at, step_at, accepts_at}
use Rattle.faults.specs.Faults.{bad_counts, bad_length, bad_masks, bad_parts, bad_ages, line_fault, table_fault}
use Rattle.record.specs.Pairs.{start_pairs, gap_pairs, step_pairs}
use Rattle.record.specs.Verdicts.{verdict_at, settled_at}
use Rattle.record.specs.Stretches.{LongestRun, touches, push, newest}
use Rattle.record.specs.Records.{inside, pair_in, pairs_at, record_of, pair_okb, stretch_okb, followsb, blankb, place_okb, properb}
use Rattle.record.proofs.Cases.{seven}
use Rattle.verdicts.specs.declared.Verdict.TheVariants.{Yes}
use Rattle.calls.specs.declared.Answer.{Answer}
use Rattle.calls.specs.Calls.{start_fault, record_fault, letter_fault, span_fault, start_of, letter_of, span_of, gap_of, verdict_of, settled_of, verdict_reply, settled_reply}
use Rattle.demands.specs.Order.{FirstFails}
use Rattle.demands.specs.Counting.{ThereAre}
use Rattle.demands.specs.Refusals.{lines_checks, table_checks}
use Rattle.demands.specs.Streams.{the_start, a_gap, Stream, started, lettered, spanned, gapped}
use Rattle.demands.specs.Demands.{told-unsure, told-settled, FromEvery}
use Rattle.demands.proofs.Counting.{there_are-one, stretches_counted}
use Rattle.demands.proofs.Demands.{demand_2, never_false}

-- ---- the first check that fails

-- 11 bytes, and version 2 in 11 bytes: both are too short. Version 2 with all bytes is another version
pub first_of-two : FirstFails (table_checks (take 11 board-table)) 1
    × FirstFails (table_checks (set (take 11 board-table) 0 2)) 1
    × FirstFails (table_checks (set board-table 0 2)) 2
unfolding FirstFails head_of
first_of-two = (inl (refl, omega arith), inl (refl, omega arith), inr ((λ l. omega arith), inl (refl, λ e. omega arith)))

-- line 0 has a greatest age below its least, and line 1 leaves a state that is none: the first bad line decides
pub first_bad_line : FirstFails (lines_checks (set (set (set (set (set (set board-table 19 1) 20 0) 21 0) 22 0) 23 0) 24 2) 2) 7
unfolding FirstFails lines_checks head_of line_at
first_bad_line = inr (sound-parts, inl (refl, inr (inr (omega arith))))
  where
    sound-parts : (2 ≤ 0) ⊎ (2 ≤ 1) ⊎ (2 ≤ 0) ⊎ (1 < 1) → ⊥
    sound-parts (inl l) = omega arith
    sound-parts (inr (inl l)) = omega arith
    sound-parts (inr (inr (inl l))) = omega arith
    sound-parts (inr (inr (inr l))) = omega arith

-- ---- how many stretches

-- ages 0 to 1, age 2, ages 4 to 5 (`three_stretches`): three of them, and no other number
pub three_and_no_other : ThereAre 3 (LongestRun 5 seven) × ((n : ℕ) → ThereAre n (LongestRun 5 seven) → n ≡ 3)
unfolding touches push newest
three_and_no_other =
    (stretches_counted 5 seven, λ n are. there_are-one n 3 (LongestRun 5 seven) are (stretches_counted 5 seven))

-- ---- two streams

-- in room 1: refreshed, 5 seconds, and a look for which there is no room
abbrev pub refreshed : Answer
refreshed = letter_of board-table (start_of board-table 1).next 0

abbrev pub waited : Answer
waited = span_of board-table refreshed.next 5

abbrev pub looked : Answer
looked = letter_of board-table waited.next 1

-- the look is not part of the stream
pub a_refused_look : Stream board-table the_start (empty ▷ letter 0 ▷ span 5) looked.next
unfolding start_fault record_fault letter_fault span_fault start_of letter_of span_of inside pair_in pairs_at record_of pair_okb
    stretch_okb followsb blankb place_okb properb touches push newest start_pairs step_pairs bad_counts bad_length bad_masks
    bad_parts bad_ages line_fault table_fault image fresh_at letter_at passed_at span_at step_at table_of horizon head_of line_at hasb
    union most all first_of
a_refused_look = lettered
    (spanned (lettered (started 1 (start_of board-table 1) refl refl) 0 refreshed refl) 5 waited refl) 1 looked refl

-- the verdict then is yes, and so some run over the two symbols accepts
pub fresh_after_5_seconds : Accepted (table_of board-table) (empty ▷ letter 0 ▷ span 5)
unfolding start_fault record_fault letter_fault span_fault start_of letter_of span_of verdict_of inside pair_in pairs_at record_of
    pair_okb stretch_okb followsb blankb place_okb properb touches push newest start_pairs step_pairs verdict_at bad_counts
    bad_length bad_masks bad_parts bad_ages line_fault table_fault image fresh_at letter_at passed_at span_at step_at accepts_at table_of
    horizon accepting_at head_of line_at hasb union most all first_of
fresh_after_5_seconds = (demand_2 board-table _ _ a_refused_look (Ok Yes) refl).yes.0 refl

-- in room 4: 5 seconds, a gap, a look, refreshed
abbrev pub lost : Answer
lost = gap_of board-table (span_of board-table (start_of board-table 4).next 5).next

abbrev pub seen : Answer
seen = letter_of board-table lost.next 1

abbrev pub renewed : Answer
renewed = letter_of board-table seen.next 0

-- what was accepted before the gap is not part of what is spoken of
pub after_a_gap : Stream board-table a_gap (empty ▷ letter 1 ▷ letter 0) renewed.next
unfolding start_fault record_fault letter_fault span_fault start_of letter_of span_of gap_of inside pair_in pairs_at record_of pair_okb
    stretch_okb followsb blankb place_okb properb touches push newest start_pairs gap_pairs step_pairs bad_counts bad_length
    bad_masks bad_parts bad_ages line_fault table_fault image fresh_at letter_at passed_at span_at step_at table_of horizon head_of
    line_at hasb union most all first_of
after_a_gap = lettered
    (lettered (gapped (spanned (started 4 (start_of board-table 4) refl refl) 5 _ refl) lost refl) 1 seen refl) 0 renewed refl

-- the verdict then is yes, and so it is right whatever came until the gap's end
pub fresh_whatever_was_lost : (u : Word) → Accepted (table_of board-table) (u ⧺ (empty ▷ letter 1 ▷ letter 0))
unfolding start_fault record_fault letter_fault span_fault start_of letter_of span_of gap_of verdict_of inside pair_in pairs_at record_of
    pair_okb stretch_okb followsb blankb place_okb properb touches push newest start_pairs gap_pairs step_pairs verdict_at bad_counts
    bad_length bad_masks bad_parts bad_ages line_fault table_fault image fresh_at letter_at passed_at span_at step_at accepts_at table_of
    horizon accepting_at head_of line_at hasb union most all first_of
fresh_whatever_was_lost = (never_false board-table _ _ after_a_gap (Ok Yes) refl).yes_of_all refl

-- ---- two tables on which a looser demand 3 would differ

-- one state, which accepts, and no lines
abbrev pub lone_table : List ℕ
lone_table = 1 ∷ 0 ∷ 12 ∷ 1 ∷ 1 ∷ 0 ∷ 0 ∷ 0 ∷ 0 ∷ 0 ∷ 1 ∷ 0 ∷ []

-- directly after a gap every set that is not empty accepts; it is unsure all the same, since the empty one may have stood there
pub unsure-for-the-empty-set :
    (verdict_reply told-unsure ≡ verdict_of lone_table (gap_of lone_table (start_of lone_table 1).next).next)
    × (¬ FromEvery (table_of lone_table) empty)
    × ((S : Confs) → Over (table_of lone_table) S → (q t : ℕ) → S q t → Accepts (table_of lone_table) S)
unfolding start_fault record_fault start_of gap_of verdict_of inside pair_in pairs_at record_of pair_okb stretch_okb followsb blankb
    place_okb properb touches push newest start_pairs gap_pairs verdict_at bad_counts bad_length bad_masks table_fault accepts_at table_of
    horizon accepting_at head_of line_at union most all first_of after Has
unsure-for-the-empty-set = (refl, (λ f. (f Nothing (λ q t z. absurd z)).3), some)
  where
    some : (S : Confs) → Over (table_of lone_table) S → (q t : ℕ) → S q t → Accepts (table_of lone_table) S
    some S o zero t h = (0, t, refl, h)
    some S o (suc q) t h = absurd (let l : suc q < 1 = o (suc q) t h in omega arith)

-- one state, which stands, and a line from it to itself that keeps the age, any age: the horizon is 0
abbrev pub kept_table : List ℕ
kept_table =
    (1 ∷ 0 ∷ 24 ∷ 1 ∷ 1 ∷ 0 ∷ 0 ∷ 0 ∷ 1 ∷ 0 ∷ 0 ∷ 1 ∷ [])
    ++ (0 ∷ 0 ∷ 0 ∷ 0 ∷ 0 ∷ 0 ∷ 0 ∷ 0 ∷ 255 ∷ 255 ∷ 255 ∷ 255 ∷ [])

abbrev pub kept : Table
kept = table_of kept_table

-- a gap, the letter, and a second
abbrev pub moved : Answer
moved = let gone = gap_of kept_table (start_of kept_table 1).next in
    span_of kept_table (letter_of kept_table gone.next 0).next 1

-- it is settled, since the state is held above the horizon whatever stood at the gap's end; at age 2 it is held by what became
-- of all configurations, and not by what became of none
pub settled-above-the-horizon :
    (settled_reply told-settled ≡ settled_of kept_table moved.next)
    × (¬ after kept Nothing (empty ▷ letter 0 ▷ span 1) 0 2)
    × after kept (Everything kept) (empty ▷ letter 0 ▷ span 1) 0 2
unfolding start_fault record_fault letter_fault span_fault start_of letter_of span_of gap_of settled_of inside pair_in pairs_at record_of
    pair_okb stretch_okb followsb blankb place_okb properb touches push newest start_pairs gap_pairs step_pairs settled_at bad_counts
    bad_length bad_masks bad_parts bad_ages line_fault table_fault image fresh_at letter_at passed_at span_at step_at table_of horizon head_of
    line_at hasb union most all first_of after step Step
settled-above-the-horizon =
    (refl, (λ f. none f.0 f.1 f.2 f.3.1), (0, 1, inl (0, 1, omega arith, taken), (refl, refl)))
  where
    none : (p t : ℕ) → Taken kept (letter 0) Nothing p t ⊎ ((t ≡ 0) × Has kept.standing p) → t + 1 ≡ 2 → ⊥
    none p t (inl f) e = f.2
    none p t (inr f) e = omega (arith, f.0)

    taken : Follows kept 0 0 1 0 1
    taken = record {
      index = 0;
      listed = omega arith;
      bears = refl;
      leaves = refl;
      meets = (omega arith, inl refl);
      enters = refl;
      aged = refl;
    }
