-- The session of document 01, One session, whole, as one statement: from its bytes, through reading, checks and calls, to the
-- text that is printed. Its twelve lines and the line of room 1 are one table. Assumes nothing: these are definitions; that the
-- statement holds is proved (`the_worked_session`).
use Rattle.std.specs.Prelude.{ℕ, zero, suc, ◌+◌, ◌≡◌, List, [], ◌∷◌, ◌++◌, map, cond, eqb, get_or, take, Some, None}
use Prim.Native.String.{String}
use Rattle.table.specs.Numbers.{byte}
use Rattle.record.specs.declared.Record.{Record}
use Rattle.calls.specs.Calls.{start_of}
use Rattle.entries.specs.Entries.{read_at}
use Rattle.text.specs.Text.{ascii, newline}
use Rattle.session.specs.Sessions.{table_length, table_in, call_of, session_of}

-- ---- the session

-- "Input to `watch`, in hexadecimal", with the room as its second byte
abbrev pub input : ℕ → List ℕ
input room =
    (0x01 ∷ room ∷ [])
    ++ (0x01 ∷ 0x00 ∷ 0x24 ∷ 0x02 ∷ 0x02 ∷ 0x00 ∷ 0x01 ∷ 0x00 ∷ 0x01 ∷ 0x00 ∷ 0x02 ∷ 0x02 ∷ [])
    ++ (0x00 ∷ 0x00 ∷ 0x01 ∷ 0x01 ∷ 0x00 ∷ 0x00 ∷ 0x00 ∷ 0x00 ∷ 0xFF ∷ 0xFF ∷ 0xFF ∷ 0xFF ∷ [])
    ++ (0x01 ∷ 0x01 ∷ 0x01 ∷ 0x00 ∷ 0x00 ∷ 0x00 ∷ 0x00 ∷ 0x00 ∷ 0x00 ∷ 0x00 ∷ 0x00 ∷ 0x05 ∷ [])
    ++ (0x02 ∷ 0x01 ∷ 0x00 ∷ 0x05 ∷ 0x02 ∷ 0x00 ∷ 0x00 ∷ 0x00 ∷ 0x05 ∷ 0x02 ∷ 0x01 ∷ 0x01 ∷ [])
    ++ (0x05 ∷ 0x02 ∷ 0x00 ∷ 0x00 ∷ 0x00 ∷ 0x01 ∷ 0x02 ∷ 0x01 ∷ 0x01 ∷ 0x01 ∷ 0x03 ∷ [])
    ++ (0x02 ∷ 0x01 ∷ 0x01 ∷ 0x05 ∷ 0x02 ∷ 0x00 ∷ 0x00 ∷ 0x00 ∷ 0x02 ∷ 0x02 ∷ 0x01 ∷ 0x00 ∷ [])
    ++ (0x05 ∷ 0x02 ∷ 0x00 ∷ 0x00 ∷ 0x00 ∷ 0x00 ∷ 0x02 ∷ 0x01 ∷ 0x02 ∷ [])

-- a row of the table: the room, the entry's ordinal, 0 for the start, and the line that it earns
pub record Row : Type 0 where
  pub room : ℕ
  pub entry : ℕ
  pub line : String

abbrev pub row : ℕ → ℕ → String → Row
row room entry line = record { room = room; entry = entry; line = line }

abbrev pub the_table : List Row
the_table =
    row 4 0 "0 no settled 1\n"
    ∷ row 4 1 "1 yes settled 1\n"
    ∷ row 4 2 "2 yes settled 1\n"
    ∷ row 4 3 "3 yes settled 2\n"
    ∷ row 4 4 "4 yes settled 1\n"
    ∷ row 4 5 "5 no settled 1\n"
    ∷ row 4 6 "6 unsure open 1\n"
    ∷ row 4 7 "7 unsure open 2\n"
    ∷ row 4 8 "8 unsure open 2\n"
    ∷ row 4 9 "9 yes settled 1\n"
    ∷ row 4 10 "10 refused 10\n"
    ∷ row 4 11 "11 refused 9\n"
    ∷ row 1 3 "3 refused 11\n"
    ∷ []

-- ---- what is printed, and what is held

-- a byte in front of the first of some lines
abbrev pub onto : ℕ → List (List ℕ) → List (List ℕ)
onto c [] = (c ∷ []) ∷ []
onto c (l ∷ ls) = (c ∷ l) ∷ ls

-- the lines of a text, each with its newline
abbrev pub lines_of : List ℕ → List (List ℕ)
lines_of [] = []
lines_of (c ∷ cs) = cond (eqb c newline) ((c ∷ []) ∷ lines_of cs) (onto c (lines_of cs))

-- some texts, one behind the other
abbrev pub joined : List (List ℕ) → List ℕ
joined [] = []
joined (l ∷ ls) = l ++ joined ls

-- the line that is printed for a row's entry in its room; and the row's own
unfoldable pub printed : Row → List ℕ
printed x = get_or (lines_of (session_of (input x.room))) x.entry []

abbrev pub written : Row → List ℕ
written x = ascii x.line

-- the record that is held after the next n entries of the session s: from the place `at` on, on the table b
unfoldable pub held_from : List ℕ → List ℕ → ℕ → ℕ → Record → Record
held_from b s zero at r = r
held_from b s (suc n) at r = elim (read_at s at 0)
    [ Some (e, next) ↦ held_from b s n next (call_of b r e.symbol).next | None ↦ r ]

unfoldable pub held_after : List ℕ → ℕ → Record
held_after s n = held_from (table_in s) s n (2 + table_length s) (start_of (table_in s) (byte s 1)).next

-- the session comes out: each row's line is printed for its entry, in its room; in room 4 those twelve are printed and nothing
-- else; and "With room 1, entry 3 answers `3 refused 11` and the record is that of entry 2."
abbrev pub WorkedSession : Type 0
WorkedSession =
    (map printed the_table ≡ map written the_table)
    × (session_of (input 4) ≡ joined (map written (take 12 the_table)))
    × (held_after (input 1) 3 ≡ held_after (input 1) 2)
