-- Document 01's table of numbers as exact statements, a row for each of 1 to 11: the number is given if the row's case is met
-- and no check before it fails, and not otherwise. It says of each number alone what `Answers` says of all. Assumes nothing:
-- these are definitions; that they hold is proved (`each_number`).
use Rattle.std.specs.Prelude.{ℕ, ◌<◌, ◌≡◌, ◌↔◌, List}
use Rattle.table.specs.Table.{head_of, line_at}
use Rattle.record.specs.declared.Record.{Record}
use Rattle.calls.specs.declared.Answer.{Answer}
use Rattle.calls.specs.Calls.{ProperFor, start_of, letter_of, span_of, gap_of, verdict_of, settled_of, count_of, verdict_reply, settled_reply, count_reply, reply_number, VerdictReply, SettledReply, CountReply}
use Rattle.demands.specs.Order.{AllPass}
use Rattle.demands.specs.Refusals.{Short, OtherVersion, OutOfRange, BadLength, BadMasks, BadParts, BadAges, BadRoom, NoLetter, BadSpan, WantsRoom, head_checks, lines_checks, table_checks, record_checks}

-- 1 to 7: n is the number of any call on the table b. A line's number is that of the first line k that fails a check
pub record TableRows (b : List ℕ) (n : ℕ) : Type 0 where
  pub row-1 : (n ≡ 1) ↔ Short b
  pub row-2 : (n ≡ 2) ↔ ((¬ Short b) × OtherVersion b)
  pub row-3 : (n ≡ 3) ↔ ((¬ Short b) × (¬ OtherVersion b) × OutOfRange (head_of b))
  pub row-4 : (n ≡ 4) ↔ ((¬ Short b) × (¬ OtherVersion b) × (¬ OutOfRange (head_of b)) × BadLength b)
  pub row-5 : (n ≡ 5) ↔ ((¬ Short b) × (¬ OtherVersion b) × (¬ OutOfRange (head_of b)) × (¬ BadLength b) × BadMasks (head_of b))
  pub row-6 : (n ≡ 6) ↔ (AllPass (head_checks b)
      × ((k : ℕ) × (k < (head_of b).lines) × AllPass (lines_checks b k) × BadParts (head_of b) (line_at b k)))
  pub row-7 : (n ≡ 7) ↔ (AllPass (head_checks b)
      × ((k : ℕ) × (k < (head_of b).lines) × AllPass (lines_checks b k)
      × ((¬ BadParts (head_of b) (line_at b k)) × BadAges (line_at b k))))

-- and 8: n is the number of any call on the table b and the record r, so of all but a start
pub record RecordRows (b : List ℕ) (r : Record) (n : ℕ) : Type 0 where
  pub rows_1_to_7 : TableRows b n
  pub row-8 : (n ≡ 8) ↔ (AllPass (table_checks b) × (¬ ProperFor b r))

-- what each call and each question carries that is handed the bytes b and the record r, whatever they are
pub record Rows (b : List ℕ) (r : Record) : Type 0 where
  pub start_1_to_7 : (room : ℕ) (x : Answer) → x ≡ start_of b room → TableRows b x.number
  pub start_8 : (room : ℕ) (x : Answer) → x ≡ start_of b room → (x.number ≡ 8) ↔ (AllPass (table_checks b) × BadRoom room)
  pub letter_1_to_8 : (a : ℕ) (x : Answer) → x ≡ letter_of b r a → RecordRows b r x.number
  pub letter_9 : (a : ℕ) (x : Answer) → x ≡ letter_of b r a → (x.number ≡ 9) ↔ (AllPass (record_checks b r) × NoLetter b a)
  pub letter_11 : (a : ℕ) (x : Answer) → x ≡ letter_of b r a
      → (x.number ≡ 11) ↔ (AllPass (record_checks b r) × (¬ NoLetter b a) × WantsRoom b r a)
  pub span_1_to_8 : (s : ℕ) (x : Answer) → x ≡ span_of b r s → RecordRows b r x.number
  pub span_10 : (s : ℕ) (x : Answer) → x ≡ span_of b r s → (x.number ≡ 10) ↔ (AllPass (record_checks b r) × BadSpan s)
  pub gap_1_to_8 : (x : Answer) → x ≡ gap_of b r → RecordRows b r x.number
  pub verdict_1_to_8 : (v : VerdictReply) → verdict_reply v ≡ verdict_of b r → RecordRows b r (reply_number (verdict_reply v))
  pub settled_1_to_8 : (v : SettledReply) → settled_reply v ≡ settled_of b r → RecordRows b r (reply_number (settled_reply v))
  pub count_1_to_8 : (v : CountReply) → count_reply v ≡ count_of b r → RecordRows b r (reply_number (count_reply v))

abbrev pub EachNumber : Type 0
EachNumber = (b : List ℕ) (r : Record) → Rows b r
