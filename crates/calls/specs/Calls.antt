-- What each call answers, for every table and record that may be handed in: its number and its record, or its number and
-- nothing else, or what was asked (document 01, Numbers a call can answer with). Everything is said by ages and sets; of a
-- record are read its room, the pairs of its ages, and whether it is proper. Assumes nothing: these are definitions.
use Rattle.std.specs.Prelude.{ℕ, zero, suc, List, Bool, ◌&&◌, ◌||◌, not, eqb, leb, ltb, length, Result, Ok, Err}
use Rattle.base.specs.Checks.{◌if◌, ◌then◌}
use Rattle.meaning.specs.Tables.{table_of, horizon}
use Rattle.meaning.specs.Runs.{Symbol, letter, span}
use Rattle.faults.specs.declared.Fault.{Fault}
use Rattle.faults.specs.Faults.{table_fault}
use Rattle.faults.specs.Numbered.{number}
use Rattle.record.specs.declared.Record.{Record}
use Rattle.record.specs.Pairs.{Pairs, start_pairs, gap_pairs, step_pairs}
use Rattle.record.specs.Verdicts.{Verdict, verdict_at, settled_at}
use Rattle.record.specs.Stretches.{stretches_of}
use Rattle.record.specs.Records.{blank_record, pairs_at, record_of, Proper, properb}
use Rattle.verdicts.specs.declared.Verdict.{Verdict as Case}
use Rattle.verdicts.specs.Said.{verdict_case}
use Rattle.calls.specs.declared.Answer.{Answer}
use Rattle.calls.specs.declared.Refusal.{Refusal}

-- ---- the table and the record that were handed in

-- the pairs that the record holds, by the horizon of the table that is handed in with it
abbrev pub pairs_of : List ℕ → Record → Pairs
pairs_of b r = pairs_at (horizon (table_of b)) r

-- the record of that room that holds the pairs f
abbrev pub holding : List ℕ → ℕ → Pairs → Record
holding b room f = record_of room (horizon (table_of b)) f

-- how many stretches the pairs f need
abbrev pub needed : List ℕ → Pairs → ℕ
needed b f = length (stretches_of (horizon (table_of b)) f)

-- the record is proper for the table that is handed in with it
abbrev pub ProperFor : List ℕ → Record → Type 0
ProperFor b r = Proper (horizon (table_of b)) (table_of b).states r

-- ---- the checks of each call, in their order

-- 1 to 7, then 8: "room outside 1 to 64 at a start"
unfoldable pub start_fault : List ℕ → ℕ → ℕ
start_fault b room = table_fault b then 8 if not (leb 1 room && leb room 64)

-- 1 to 7, then 8: "a record that isn't proper"
unfoldable pub record_fault : List ℕ → Record → ℕ
record_fault b r = table_fault b then 8 if not (properb (horizon (table_of b)) (table_of b).states r)

-- the pairs after the symbol
abbrev pub stepped : List ℕ → Record → Symbol → Pairs
stepped b r x = step_pairs (table_of b) x (pairs_of b r)

-- a letter's own checks, 9: "letter m or above", and 11: "the count after the letter would exceed the room"
abbrev pub letter_step_fault : List ℕ → Record → ℕ → ℕ
letter_step_fault b r a = 9 if leb (table_of b).letters a then 11 if ltb r.room (needed b (stepped b r (letter a)))

-- a span's own check, 10: "span 0 or above 2,147,483,647"
abbrev pub span_step_fault : ℕ → ℕ
span_step_fault s = 10 if (eqb s 0 || ltb 2147483647 s)

-- 1 to 8, then 9 and 11
unfoldable pub letter_fault : List ℕ → Record → ℕ → ℕ
letter_fault b r a = record_fault b r then letter_step_fault b r a

-- 1 to 8, then 10
unfoldable pub span_fault : List ℕ → Record → ℕ → ℕ
span_fault b r s = record_fault b r then span_step_fault s

-- ---- what a call answers

-- "An accepted call carries the number 0", and with it the new record
abbrev pub accepted : Record → Answer
accepted new = record { number = 0; next = new }

-- "Every refused call returns its number with the record exactly as handed in"
abbrev pub refusal : ℕ → Record → Answer
refusal n old = record { number = n; next = old }

-- by the number of the first check that failed, 0 where none did
abbrev pub answer : ℕ → Record → Record → Answer
answer zero old new = accepted new
answer (suc n) old new = refusal (suc n) old

-- a start in a room: the initial states at age 0; "a refused start returns a record of all zeros"
unfoldable pub start_of : List ℕ → ℕ → Answer
start_of b room = answer (start_fault b room) blank_record (holding b room (start_pairs (table_of b)))

-- a letter: both sets stepped by it
unfoldable pub letter_of : List ℕ → Record → ℕ → Answer
letter_of b r a = answer (letter_fault b r a) r (holding b r.room (stepped b r (letter a)))

-- a span of s seconds: both sets stepped by it
unfoldable pub span_of : List ℕ → Record → ℕ → Answer
span_of b r s = answer (span_fault b r s) r (holding b r.room (stepped b r (span s)))

-- a gap: nothing sure, everything possible, whatever the record held; "A start runs checks 1 to 8 and a gap likewise."
unfoldable pub gap_of : List ℕ → Record → Answer
gap_of b r = answer (record_fault b r) r (holding b r.room (gap_pairs (table_of b)))

-- ---- a call as its checks and its step: what is left of it where the checks 1 to 8 passed (`letter_call`, `span_call`,
-- `gap_call`)

unfoldable pub letter_step : List ℕ → Record → ℕ → Answer
letter_step b r a = answer (letter_step_fault b r a) r (holding b r.room (stepped b r (letter a)))

unfoldable pub span_step : List ℕ → Record → ℕ → Answer
span_step b r s = answer (span_step_fault s) r (holding b r.room (stepped b r (span s)))

unfoldable pub gap_step : List ℕ → Record → Answer
gap_step b r = accepted (holding b r.room (gap_pairs (table_of b)))

-- the number of a check that failed with the record as it was handed in; where none did, the step
abbrev pub checked : ℕ → Record → Answer → Answer
checked zero old step = step
checked (suc n) old step = refusal (suc n) old

-- ---- what a question answers

-- "refused, it gives its number and nothing else"
pub data Reply (A : Type 0) : Type 0 where
  refused : ℕ → Reply A
  told : A → Reply A

-- the number that a reply carries: 0 where it was accepted
abbrev pub reply_number : {A : Type 0} → Reply A → ℕ
reply_number (refused n) = n
reply_number (told a) = 0

-- told where no check failed
abbrev pub reply : {A : Type 0} → ℕ → A → Reply A
reply zero a = told a
reply (suc n) a = refused (suc n)

-- the three questions: "A plain question (verdict, settled, count) runs checks 1 to 8"
unfoldable pub verdict_of : List ℕ → Record → Reply Verdict
verdict_of b r = reply (record_fault b r) (verdict_at (table_of b) (pairs_of b r))

unfoldable pub settled_of : List ℕ → Record → Reply Bool
settled_of b r = reply (record_fault b r) (settled_at (table_of b) (pairs_of b r))

-- the count is that of the longest runs of the record's pairs; that its field has the same number is a law (`count_held`)
unfoldable pub count_of : List ℕ → Record → Reply ℕ
count_of b r = reply (record_fault b r) (needed b (pairs_of b r))

-- ---- what the code answers: "a definition gives this paper's number and values for each of the enum's cases"

-- a call
abbrev pub answered : Result Record Refusal → Answer
answered (Ok new) = accepted new
answered (Err x) = refusal (number x.fault) x.held

-- a question
abbrev pub VerdictReply : Type 0
VerdictReply = Result Case Fault

abbrev pub SettledReply : Type 0
SettledReply = Result Bool Fault

abbrev pub CountReply : Type 0
CountReply = Result ℕ Fault

-- what it was told stands for f of it
abbrev pub replied : {A B : Type 0} → (A → B) → Result A Fault → Reply B
replied f (Ok a) = told (f a)
replied f (Err e) = refused (number e)

abbrev pub verdict_reply : VerdictReply → Reply Verdict
verdict_reply = replied verdict_case

abbrev pub settled_reply : SettledReply → Reply Bool
settled_reply = replied (λ b. b)

abbrev pub count_reply : CountReply → Reply ℕ
count_reply = replied (λ n. n)
