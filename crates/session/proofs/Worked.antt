-- The worked session comes out (`the_worked_session`), also to its end in room 1 (`goes-on-in-room-1`), and so does a session of
-- another table (`the-pump`), by computation. Assumes nothing.
use Prim.Native.Nat.{ℕ}
use Prim.Native.String.{String}
use mathlib.Core.Path.{◌≡◌, refl}
use mathlib.Core.List.{List, [], ◌∷◌, ◌++◌, map}
use lib.ListN.{take}
use Rattle.base.specs.Masks.{hasb, union, most, all}
use Rattle.base.specs.Checks.{first_of}
use Rattle.table.specs.Table.{head_of, line_at}
use Rattle.meaning.specs.Tables.{table_of, horizon, accepting_at}
use Rattle.meaning.proofs.Cases.{pump-table}
use Rattle.meaning.specs.Ages.{image, fresh_at, letter_at, passed_at, span_at, step_at, accepts_at}
use Rattle.faults.specs.Faults.{bad_counts, bad_length, bad_masks, bad_parts, bad_ages, line_fault, table_fault}
use Rattle.record.specs.Pairs.{start_pairs, gap_pairs, step_pairs}
use Rattle.record.specs.Verdicts.{verdict_at, settled_at}
use Rattle.record.specs.Stretches.{touches, push, newest}
use Rattle.record.specs.Records.{inside, pair_in, pairs_at, record_of, pair_okb, stretch_okb, followsb, blankb, place_okb, properb}
use Rattle.calls.specs.Calls.{start_fault, record_fault, letter_fault, span_fault, start_of, letter_of, span_of, gap_of}
use Rattle.entries.specs.Entries.{is_entry, read_at}
use Rattle.text.specs.Text.{ascii, decimal, line_text, refusal_text}
use Rattle.session.specs.Worked.{input, joined, printed, held_from, held_after, WorkedSession}
use Rattle.session.specs.Sessions.{framed, table_length, table_in, answer_text, entries_text, begun_text, session_of}

pub the_worked_session : WorkedSession
unfolding
    printed held_from held_after session_of framed table_in table_length begun_text answer_text entries_text is_entry read_at start_fault
    record_fault letter_fault span_fault start_of letter_of span_of gap_of inside pair_in pairs_at record_of pair_okb stretch_okb followsb
    blankb place_okb properb touches push newest start_pairs gap_pairs step_pairs verdict_at settled_at bad_counts bad_length bad_masks
    bad_parts bad_ages line_fault table_fault image fresh_at letter_at passed_at span_at step_at accepts_at table_of horizon accepting_at
    head_of line_at hasb union most all first_of line_text refusal_text decimal
the_worked_session = (refl, refl, refl)

-- after the refused look of entry 3 the session goes on
pub goes-on-in-room-1 :
    session_of (input 1)
    ≡ joined (map ascii (
    "0 no settled 1\n"
    ∷ "1 yes settled 1\n"
    ∷ "2 yes settled 1\n"
    ∷ "3 refused 11\n"
    ∷ "4 yes settled 0\n"
    ∷ "5 no settled 1\n"
    ∷ "6 unsure open 1\n"
    ∷ "7 refused 11\n"
    ∷ "8 unsure open 1\n"
    ∷ "9 unsure open 1\n"
    ∷ "10 refused 10\n"
    ∷ "11 refused 9\n"
    ∷ []))
unfolding
    session_of framed table_in table_length begun_text answer_text entries_text is_entry read_at start_fault record_fault letter_fault
    span_fault start_of letter_of span_of gap_of inside pair_in pairs_at record_of pair_okb stretch_okb followsb blankb place_okb properb
    touches push newest start_pairs gap_pairs step_pairs verdict_at settled_at bad_counts bad_length bad_masks bad_parts bad_ages
    line_fault table_fault image fresh_at letter_at passed_at span_at step_at accepts_at table_of horizon accepting_at head_of line_at
    hasb union most all first_of line_text refusal_text decimal
goes-on-in-room-1 = refl

-- ---- a session of the other table: examples/pump.hex, whose lines the second program prints

-- the first ten entries: 1 second, start, 1 second, check, 2 seconds, start, 3 seconds, check, start, 4 seconds
abbrev pub pump-begins : ℕ → List ℕ
pump-begins room =
    (1 ∷ room ∷ [])
    ++ pump-table
    ++ (5 ∷ 2 ∷ 0 ∷ 0 ∷ 0 ∷ 1 ∷ 2 ∷ 1 ∷ 0 ∷ 5 ∷ 2 ∷ 0 ∷ 0 ∷ 0 ∷ 1 ∷ 2 ∷ 1 ∷ 1 ∷ [])
    ++ (5 ∷ 2 ∷ 0 ∷ 0 ∷ 0 ∷ 2 ∷ 2 ∷ 1 ∷ 0 ∷ 5 ∷ 2 ∷ 0 ∷ 0 ∷ 0 ∷ 3 ∷ 2 ∷ 1 ∷ 1 ∷ [])
    ++ (2 ∷ 1 ∷ 0 ∷ 5 ∷ 2 ∷ 0 ∷ 0 ∷ 0 ∷ 4 ∷ [])

-- and ten more: check, a gap, check, 3 seconds, check, start, 7 seconds, check, start, check
abbrev pub pump-input : ℕ → List ℕ
pump-input room =
    pump-begins room
    ++ (2 ∷ 1 ∷ 1 ∷ 1 ∷ 3 ∷ 2 ∷ 1 ∷ 1 ∷ 5 ∷ 2 ∷ 0 ∷ 0 ∷ 0 ∷ 3 ∷ 2 ∷ 1 ∷ 1 ∷ [])
    ++ (2 ∷ 1 ∷ 0 ∷ 5 ∷ 2 ∷ 0 ∷ 0 ∷ 0 ∷ 7 ∷ 2 ∷ 1 ∷ 1 ∷ 2 ∷ 1 ∷ 0 ∷ 2 ∷ 1 ∷ 1 ∷ [])

abbrev pub pump-lines : List String
pump-lines =
    "0 no settled 1\n"
    ∷ "1 no settled 1\n"
    ∷ "2 no settled 1\n"
    ∷ "3 no settled 1\n"
    ∷ "4 no settled 1\n"
    ∷ "5 no settled 1\n"
    ∷ "6 yes settled 2\n"
    ∷ "7 yes settled 2\n"
    ∷ "8 yes settled 3\n"
    ∷ "9 yes settled 3\n"
    ∷ "10 yes settled 1\n"
    ∷ "11 yes settled 2\n"
    ∷ "12 unsure open 1\n"
    ∷ "13 unsure open 2\n"
    ∷ "14 unsure open 2\n"
    ∷ "15 yes settled 2\n"
    ∷ "16 yes settled 2\n"
    ∷ "17 yes settled 0\n"
    ∷ "18 yes settled 1\n"
    ∷ "19 no settled 1\n"
    ∷ "20 no settled 1\n"
    ∷ []

pub the-pump :
    (session_of (pump-input 4) ≡ joined (map ascii pump-lines))
    -- with room 2 entry 8 is refused, and the session goes on
    × (session_of (pump-begins 2)
    ≡ joined (map ascii (take 8 pump-lines ++ "8 refused 11\n" ∷ "9 yes settled 2\n" ∷ "10 yes settled 1\n" ∷ [])))
unfolding
    session_of framed table_in table_length begun_text answer_text entries_text is_entry read_at start_fault record_fault letter_fault
    span_fault start_of letter_of span_of gap_of inside pair_in pairs_at record_of pair_okb stretch_okb followsb blankb place_okb properb
    touches push newest start_pairs gap_pairs step_pairs verdict_at settled_at bad_counts bad_length bad_masks bad_parts bad_ages
    line_fault table_fault image fresh_at letter_at passed_at span_at step_at accepts_at table_of horizon accepting_at head_of line_at
    hasb union most all first_of line_text refusal_text decimal
the-pump = (refl, refl)
