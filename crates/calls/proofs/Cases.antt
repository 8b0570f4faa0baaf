-- The definitions at work, by computation: records of the session of document 01, One session, whole, with room 4 and with room
-- 1, and both sides of the edges of the calls (Both sides of each edge). The session's lines, from its bytes on, are worked out in
-- `session`. Assumes nothing.
use Prim.Native.Nat.{ℕ}
use mathlib.Core.Path.{◌≡◌, refl}
use mathlib.Core.List.{List, [], ◌∷◌, map}
use mathlib.Core.Bool.{false}
use lib.ListN.{set, take}
use Rattle.base.specs.Masks.{hasb, union, most, all}
use Rattle.base.specs.Checks.{first_of}
use Rattle.table.specs.Table.{head_of, line_at}
use Rattle.table.proofs.Cases.{board-table}
use Rattle.meaning.specs.Tables.{table_of, horizon, accepting_at}
use Rattle.meaning.specs.Ages.{image, fresh_at, letter_at, passed_at, span_at, step_at, accepts_at}
use Rattle.faults.specs.Faults.{bad_counts, bad_length, bad_masks, bad_parts, bad_ages, line_fault, table_fault}
use Rattle.record.specs.declared.Pair.{Pair}
use Rattle.record.specs.declared.Record.{Record}
use Rattle.record.specs.Pairs.{no_pair, start_pairs, gap_pairs, step_pairs}
use Rattle.record.specs.Verdicts.{says_no, unsure, verdict_at, settled_at}
use Rattle.record.specs.Stretches.{stretch, touches, push, newest}
use Rattle.record.specs.Records.{blank_record, inside, pair_in, pairs_at, record_of, pair_okb, stretch_okb, followsb, blankb, place_okb, properb}
use Rattle.record.proofs.Cases.{made}
use Rattle.calls.specs.declared.Answer.{Answer}
use Rattle.calls.specs.Calls.{start_fault, record_fault, letter_fault, span_fault, start_of, letter_of, span_of, gap_of, refused, told, verdict_of, settled_of, count_of}

-- ---- records of the session

-- an entry of a session without its ordinal, and the call that it makes
pub data Entry : Type 0 where
  letter : ℕ → Entry
  span : ℕ → Entry
  gap : Entry

unfoldable pub call : List ℕ → Record → Entry → Answer
call b r (letter a) = letter_of b r a
call b r (span s) = span_of b r s
call b r gap = gap_of b r

-- the answer to the last of the entries, in the order of their coming
unfoldable pub after : List ℕ → Answer → List Entry → Answer
after b x [] = x
after b x (e ∷ es) = after b (call b x.next e) es

-- the same states sure and possible
abbrev pub both : ℕ → Pair
both m = record { sure = m; possible = m }

pub the-records :
    -- the start: waiting at age 0
    (start_of board-table 4 ≡ record { number = 0; next = made 4 1 (stretch 0 0 (both 1) ∷ []) no_pair })
    -- entry 3: waiting at age 0, fresh at age 5
    × (after board-table (start_of board-table 4) (letter 0 ∷ span 5 ∷ letter 1 ∷ [])
    ≡ record { number = 0; next = made 4 2 (stretch 0 0 (both 1) ∷ stretch 5 5 (both 2) ∷ []) no_pair })
    -- entry 4: fresh above H, waiting at age 1
    × (after board-table (start_of board-table 4) (letter 0 ∷ span 5 ∷ letter 1 ∷ span 1 ∷ [])
    ≡ record { number = 0; next = made 4 1 (stretch 1 1 (both 1) ∷ []) (both 2) })
    -- a gap, as entry 6: everything possible, nothing sure
    × (after board-table (start_of board-table 4) (gap ∷ []) ≡ record {
      number = 0;
      next = made 4 1 (stretch 0 5 (record { sure = 0; possible = 3 }) ∷ []) (record { sure = 0; possible = 3 });
    })
    -- a gap after a gap gives the same record
    × (after board-table (start_of board-table 4) (gap ∷ gap ∷ []) ≡ after board-table (start_of board-table 4) (gap ∷ []))
    -- a look after it, as entry 7: waiting is sure at age 0, and fresh is possible at ages 0 to 5
    × (after board-table (start_of board-table 4) (gap ∷ letter 1 ∷ []) ≡ record {
      number = 0;
      next = made 4 2
          (stretch 0 0 (record { sure = 1; possible = 3 }) ∷ stretch 1 5 (record { sure = 0; possible = 2 }) ∷ []) no_pair;
    })
    -- "With room 1, entry 3 answers `3 refused 11` and the record is that of entry 2."
    × (after board-table (start_of board-table 1) (letter 0 ∷ span 5 ∷ letter 1 ∷ [])
    ≡ record { number = 11; next = (after board-table (start_of board-table 1) (letter 0 ∷ span 5 ∷ [])).next })
    -- no span between two letters: both act at age 0, where waiting is held already
    × (after board-table (start_of board-table 4) (letter 0 ∷ letter 0 ∷ [])
    ≡ after board-table (start_of board-table 4) (letter 0 ∷ []))
unfolding after call start_fault record_fault letter_fault span_fault start_of letter_of span_of gap_of verdict_of settled_of
    count_of inside pair_in pairs_at record_of pair_okb stretch_okb followsb blankb place_okb properb touches push newest
    start_pairs gap_pairs step_pairs verdict_at settled_at bad_counts bad_length bad_masks bad_parts bad_ages line_fault
    table_fault image fresh_at letter_at passed_at span_at step_at accepts_at table_of horizon accepting_at head_of line_at hasb union
    most all first_of
the-records = (refl, refl, refl, refl, refl, refl, refl, refl)

-- ---- edges

abbrev pub numbers : List Answer → List ℕ
numbers = map (λ x. x.number)

-- the record of a start with room 4
abbrev pub started : Record
started = made 4 1 (stretch 0 0 (both 1) ∷ []) no_pair

-- a record that is not proper: it holds state 2, and the session's table has 2 states
abbrev pub improper : Record
improper = made 4 1 (stretch 0 0 (both 4) ∷ []) no_pair

pub the-edges :
    -- rooms 0, 1, 64 and 65; a refused start hands back zeros
    (numbers (map (start_of board-table) (0 ∷ 1 ∷ 64 ∷ 65 ∷ [])) ≡ 8 ∷ 0 ∷ 0 ∷ 8 ∷ [])
    × (start_of board-table 65 ≡ record { number = 8; next = blank_record })
    -- spans 0, 1, 2,147,483,647 and 2,147,483,648
    × (numbers (map (span_of board-table started) (0 ∷ 1 ∷ 2147483647 ∷ 2147483648 ∷ [])) ≡ 10 ∷ 0 ∷ 0 ∷ 10 ∷ [])
    -- letters 1, 2 and 255, of 2
    × (numbers (map (letter_of board-table started) (1 ∷ 2 ∷ 255 ∷ [])) ≡ 0 ∷ 9 ∷ 9 ∷ [])
    -- two faults: a bad letter with a bad record is 8, and so is a bad span; a bad record with a bad table is the table's number
    × (letter_of board-table improper 2 ≡ record { number = 8; next = improper })
    × (span_of board-table improper 0 ≡ record { number = 8; next = improper })
    × (gap_of (take 11 board-table) improper ≡ record { number = 1; next = improper })
    × (start_of (take 11 board-table) 65 ≡ record { number = 1; next = blank_record })
    -- a refused question gives its number and nothing else
    × ((verdict_of board-table improper ≡ refused 8)
    × (settled_of board-table improper ≡ refused 8)
    × (count_of board-table improper ≡ refused 8))
    -- a letter that no line bears, of 3 letters, is accepted: every configuration disappears, and waiting joins
    × (letter_of (set board-table 4 3) (made 4 1 (stretch 3 3 (both 2) ∷ []) (both 3)) 2 ≡ record { number = 0; next = started })
    -- the pair above H alone leaves it open, and unsure
    × ((settled_of board-table (made 1 0 [] (record { sure = 0; possible = 2 })) ≡ told false)
    × (verdict_of board-table (made 1 0 [] (record { sure = 0; possible = 2 })) ≡ told unsure))
    -- a table with no accepting state answers no even after a gap
    × (verdict_of (set board-table 10 0) (gap_of board-table started).next ≡ told says_no)
unfolding start_fault record_fault letter_fault span_fault start_of letter_of span_of gap_of verdict_of settled_of count_of
    inside pair_in pairs_at record_of pair_okb stretch_okb followsb blankb place_okb properb touches push newest start_pairs
    gap_pairs step_pairs verdict_at settled_at bad_counts bad_length bad_masks bad_parts bad_ages line_fault table_fault image
    fresh_at letter_at passed_at span_at step_at accepts_at table_of horizon accepting_at head_of line_at hasb union most all first_of
the-edges = (refl, refl, refl, refl, refl, refl, refl, refl, (refl, refl, refl), refl, (refl, refl), refl)
