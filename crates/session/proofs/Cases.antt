-- The session's definitions at work, by computation: the frame and how the table is cut off, what ends a session and what it
-- goes on after (document 01, The program `watch`). The lines are said by `line_text` and `refusal_text`, some of whose bytes
-- are written out in `text`. Assumes nothing.
use mathlib.Core.Path.{◌≡◌, refl}
use mathlib.Core.List.{List, [], ◌∷◌, ◌++◌}
use mathlib.Core.Bool.{true, false}
use Prim.Native.Nat.{ℕ}
use lib.ListN.{take}
use Rattle.base.specs.Masks.{hasb, union, most, all}
use Rattle.base.specs.Checks.{first_of}
use Rattle.table.specs.Table.{head_of, line_at}
use Rattle.table.proofs.Cases.{board-table}
use Rattle.meaning.specs.Tables.{table_of, horizon, accepting_at}
use Rattle.meaning.specs.Ages.{image, fresh_at, letter_at, passed_at, span_at, step_at, accepts_at}
use Rattle.faults.specs.Faults.{bad_counts, bad_length, bad_masks, bad_parts, bad_ages, line_fault, table_fault}
use Rattle.record.specs.Pairs.{start_pairs, gap_pairs, step_pairs}
use Rattle.record.specs.Verdicts.{says_yes, says_no, unsure, verdict_at, settled_at}
use Rattle.record.specs.Stretches.{touches, push, newest}
use Rattle.record.specs.Records.{inside, pair_in, pairs_at, record_of, pair_okb, stretch_okb, followsb, blankb, place_okb, properb}
use Rattle.calls.specs.Calls.{start_fault, record_fault, letter_fault, span_fault, start_of, letter_of, span_of, gap_of}
use Rattle.entries.specs.Entries.{is_entry, read_at}
use Rattle.text.specs.Text.{decimal, line_text, refusal_text}
use Rattle.session.specs.Sessions.{framed, table_length, table_in, answer_text, entries_text, begun_text, session_of}

-- ---- the frame

-- "below 2 bytes, or with another version"
pub frames :
    (session_of [] ≡ refusal_text 0 12)
    × (session_of (1 ∷ []) ≡ refusal_text 0 12)
    × (session_of (0 ∷ 4 ∷ board-table) ≡ refusal_text 0 12)
    × (session_of (2 ∷ 4 ∷ board-table) ≡ refusal_text 0 12)
unfolding session_of framed
frames = (refl, refl, refl, refl)

-- "as long as its own bytes 1-2 say, or all that is left if that is less, or if fewer than 3 bytes are left"
pub tables :
    (table_in (1 ∷ 4 ∷ []) ≡ [])
    × (table_in (1 ∷ 4 ∷ 9 ∷ 0 ∷ []) ≡ 9 ∷ 0 ∷ [])
    × (table_in (1 ∷ 4 ∷ 9 ∷ 0 ∷ 2 ∷ []) ≡ 9 ∷ 0 ∷ [])
    × (table_in (1 ∷ 4 ∷ 9 ∷ 0 ∷ 3 ∷ []) ≡ 9 ∷ 0 ∷ 3 ∷ [])
    × (table_in (1 ∷ 4 ∷ 9 ∷ 0 ∷ 4 ∷ []) ≡ 9 ∷ 0 ∷ 4 ∷ [])
    × (table_in (1 ∷ 4 ∷ 9 ∷ 1 ∷ 0 ∷ 7 ∷ []) ≡ 9 ∷ 1 ∷ 0 ∷ 7 ∷ [])
    × (table_in (1 ∷ 4 ∷ 9 ∷ 0 ∷ 4 ∷ 7 ∷ 8 ∷ []) ≡ 9 ∷ 0 ∷ 4 ∷ 7 ∷ [])
    × (table_in (1 ∷ 4 ∷ board-table ++ 1 ∷ 3 ∷ []) ≡ board-table)
unfolding table_in table_length
tables = (refl, refl, refl, refl, refl, refl, refl, refl)

-- ---- starts and entries

-- a session of the board, in that room
abbrev pub board : ℕ → List ℕ → List ℕ
board room entries = 1 ∷ room ∷ board-table ++ entries

-- "A refused start ends it too, with its own number."
pub starts-refused :
    (session_of (1 ∷ 4 ∷ []) ≡ refusal_text 0 1)
    × (session_of (1 ∷ 4 ∷ take 35 board-table) ≡ refusal_text 0 4)
    × (session_of (board 0 (1 ∷ 3 ∷ [])) ≡ refusal_text 0 8)
    × (session_of (board 65 (1 ∷ 3 ∷ [])) ≡ refusal_text 0 8)
unfolding
    session_of framed table_in table_length begun_text answer_text entries_text start_fault start_of bad_counts bad_length bad_masks
    bad_parts bad_ages line_fault table_fault table_of head_of line_at first_of hasb union refusal_text decimal
starts-refused = (refl, refl, refl, refl)

-- "When the input is used up after a whole entry, nothing more is printed."; "After 9, 10 or 11 the session goes on", and each
-- entry has its ordinal; "An entry that cannot be read ends the session with 12"
pub entries-told :
    (session_of (board 4 []) ≡ line_text 0 says_no true 1)
    -- a gap
    × (session_of (board 4 (1 ∷ 3 ∷ [])) ≡ line_text 0 says_no true 1 ++ line_text 1 unsure false 1)
    -- a letter that is none, a span of 0, a gap
    × (session_of (board 4 (2 ∷ 1 ∷ 2 ∷ 5 ∷ 2 ∷ 0 ∷ 0 ∷ 0 ∷ 0 ∷ 1 ∷ 3 ∷ []))
    ≡ line_text 0 says_no true 1 ++ refusal_text 1 9 ++ refusal_text 2 10 ++ line_text 3 unsure false 1)
    -- room 1: refreshed, 5 seconds, a look for which there is no room, refreshed
    × (session_of (board 1 (2 ∷ 1 ∷ 0 ∷ 5 ∷ 2 ∷ 0 ∷ 0 ∷ 0 ∷ 5 ∷ 2 ∷ 1 ∷ 1 ∷ 2 ∷ 1 ∷ 0 ∷ []))
    ≡ line_text 0 says_no true 1 ++ line_text 1 says_yes true 1 ++ line_text 2 says_yes true 1 ++ refusal_text 3 11
    ++ line_text 4 says_yes true 1)
    -- a letter cut short
    × (session_of (board 4 (2 ∷ 1 ∷ [])) ≡ line_text 0 says_no true 1 ++ refusal_text 1 12)
    -- a gap with the length of a letter, and a gap behind it
    × (session_of (board 4 (2 ∷ 3 ∷ 0 ∷ 1 ∷ 3 ∷ [])) ≡ line_text 0 says_no true 1 ++ refusal_text 1 12)
    -- refused, then unreadable
    × (session_of (board 4 (2 ∷ 1 ∷ 2 ∷ 0 ∷ [])) ≡ line_text 0 says_no true 1 ++ refusal_text 1 9 ++ refusal_text 2 12)
unfolding
    session_of framed table_in table_length begun_text answer_text entries_text is_entry read_at start_fault record_fault letter_fault
    span_fault start_of letter_of span_of gap_of inside pair_in pairs_at record_of pair_okb stretch_okb followsb blankb place_okb properb
    touches push newest start_pairs gap_pairs step_pairs verdict_at settled_at bad_counts bad_length bad_masks bad_parts bad_ages
    line_fault table_fault image fresh_at letter_at passed_at span_at step_at accepts_at table_of horizon accepting_at head_of line_at
    hasb union most all first_of line_text refusal_text decimal
entries-told = (refl, refl, refl, refl, refl, refl, refl)
