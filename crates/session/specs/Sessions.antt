-- A whole session: from the bytes that the program reads to the bytes that it prints (document 01, The program `watch`). It is
-- said by what the public calls answer and nothing else. Assumes nothing: these are definitions.
use Rattle.std.specs.Prelude.{ℕ, zero, suc, ◌+◌, ◌-◌, min, List, [], ◌++◌, Bool, cond, ◌&&◌, eqb, leb, ltb, length, take, drop}
use Rattle.std.specs.Prelude.{Option, Some, None}
use Rattle.table.specs.Numbers.{byte, be16_of}
use Rattle.meaning.specs.Tables.{table_of}
use Rattle.record.specs.declared.Record.{Record}
use Rattle.record.specs.Verdicts.{verdict_at, settled_at}
use Rattle.calls.specs.declared.Answer.{Answer}
use Rattle.calls.specs.Calls.{pairs_of, needed, start_of, letter_of, span_of, gap_of}
use Rattle.entries.specs.declared.Symbol.{Symbol}
use Rattle.entries.specs.declared.Symbol.TheVariants.{Letter, Span, Gap}
use Rattle.entries.specs.declared.Entry.{Entry}
use Rattle.entries.specs.Entries.{read_at}
use Rattle.text.specs.Text.{line_text, refusal_text}

-- ---- the frame

-- not "Input above 32,768 bytes, below 2 bytes, or with another version"
unfoldable pub framed : List ℕ → Bool
framed s = leb 2 (length s) && leb (length s) 32768 && eqb (byte s 0) 1

-- "The table slice is as long as its own bytes 1-2 say, or all that is left if that is less, or if fewer than 3 bytes are
-- left." It begins behind the version byte and the room byte, so its bytes 1-2 are the session's 3 and 4
unfoldable pub table_length : List ℕ → ℕ
table_length s = cond (ltb (length s - 2) 3) (length s - 2) (min (be16_of (byte s 3) (byte s 4)) (length s - 2))

-- the table slice
unfoldable pub table_in : List ℕ → List ℕ
table_in s = take (table_length s) (drop 2 s)

-- ---- the lines

-- the call that an entry makes of the record that is held
abbrev pub call_of : List ℕ → Record → Symbol → Answer
call_of b r (Letter a) = letter_of b r a
call_of b r (Span s) = span_of b r s
call_of b r Gap = gap_of b r

-- the verdict, `settled` or `open`, and the count, of the record that is held now; the questions are told the same
-- (`questions_known`)
abbrev pub held_text : List ℕ → ℕ → Record → List ℕ
held_text b ordinal r =
    line_text ordinal (verdict_at (table_of b) (pairs_of b r)) (settled_at (table_of b) (pairs_of b r)) (needed b (pairs_of b r))

-- the line of a call: of the record that it hands back where it was accepted; else "the ordinal, `refused` and the number"
unfoldable pub answer_text : List ℕ → ℕ → Answer → List ℕ
answer_text b ordinal a = cond (eqb a.number 0) (held_text b ordinal a.next) (refusal_text ordinal a.number)

-- the line of what was read and, where it was an entry, the rest, by the place behind it, the next ordinal and the record that
-- is held then. "After 9, 10 or 11 the session goes on. An entry that cannot be read ends the session with 12"
abbrev pub read_text : List ℕ → Record → ℕ → (ℕ → ℕ → Record → List ℕ) → Option (Entry × ℕ) → List ℕ
read_text b r ordinal rest (Some (e, next)) =
    answer_text b e.ordinal (call_of b r e.symbol) ++ rest next (suc e.ordinal) (call_of b r e.symbol).next
read_text b r ordinal rest None = refusal_text ordinal 12

-- the lines of the entries from the place `at` on, of which there are at most `most`; r is held before them. "When the input
-- is used up after a whole entry, nothing more is printed."
unfoldable pub entries_text : List ℕ → List ℕ → ℕ → ℕ → ℕ → Record → List ℕ
entries_text b s zero at ordinal r = []
entries_text b s (suc most) at ordinal r =
    cond (ltb at (length s))
    (read_text b r ordinal (λ next later held. entries_text b s most next later held) (read_at s at ordinal))
    []

-- all entries, from the place `from` on: each has two bytes at least, so there are no more of them than bytes, and to allow for
-- more changes nothing (`entries_enough`)
abbrev pub entries_from : List ℕ → List ℕ → ℕ → Record → List ℕ
entries_from b s from r = entries_text b s (length s) from 1 r

-- ---- the session

-- the start's line, and the entries from the place `from` on: "A refused start ends it too, with its own number."
unfoldable pub begun_text : List ℕ → List ℕ → ℕ → Answer → List ℕ
begun_text b s from a = answer_text b 0 a ++ cond (eqb a.number 0) (entries_from b s from a.next) []

-- the same where a start in that room answers for the table b
abbrev pub started_text : List ℕ → List ℕ → ℕ → ℕ → List ℕ
started_text b s room from = begun_text b s from (start_of b room)

-- "a version byte 1, a room byte, a table, then entries"; a session that is not framed "prints only `0 refused 12`"
unfoldable pub session_of : List ℕ → List ℕ
session_of s =
    cond (framed s) (started_text (table_in s) s (byte s 1) (2 + table_length s)) (refusal_text 0 12)
