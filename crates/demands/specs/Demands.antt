-- The three demands, as closed statements about what the public calls answer, as their contracts promise it. Assumes nothing:
-- these are definitions; that they hold is proved (`demand_1`, `demand_2`, `demand_3`, `never_false`).
use Rattle.std.specs.Prelude.{ℕ, ◌≡◌, ◌↔◌, ◌≢◌, true, false, length, take, Ok, Err}
use mathlib.Core.List.{List, Memᴰ}
use Rattle.meaning.specs.Tables.{Table, table_of, horizon}
use Rattle.meaning.specs.Runs.{letter, Word, ◌⧺◌, Accepted}
use Rattle.meaning.specs.Sets.{Confs, after, Accepts, Over, Same}
use Rattle.faults.specs.declared.Fault.{Fault}
use Rattle.record.specs.declared.Stretch.{Stretch}
use Rattle.record.specs.declared.Record.{Record}
use Rattle.record.specs.Pairs.{Pairs}
use Rattle.record.specs.Records.{blank_record}
use Rattle.verdicts.specs.declared.Verdict.TheVariants.{Yes, No, Unsure}
use Rattle.calls.specs.declared.Answer.{Answer}
use Rattle.calls.specs.Calls.{pairs_of, stepped, start_of, letter_of, span_of, gap_of, verdict_of, settled_of, count_of, verdict_reply, settled_reply, count_reply, reply_number, VerdictReply, SettledReply, CountReply}
use Rattle.demands.specs.Order.{Check, AllPass, Answers}
use Rattle.demands.specs.Counting.{ThereAre}
use Rattle.demands.specs.Refusals.{StretchOf, start_checks, record_checks, letter_checks, span_checks}
use Rattle.demands.specs.Streams.{the_start, a_gap, Stream}

-- ---- what the questions can answer, beside a refusal

abbrev pub told-yes : VerdictReply
told-yes = Ok Yes

abbrev pub told-no : VerdictReply
told-no = Ok No

abbrev pub told-unsure : VerdictReply
told-unsure = Ok Unsure

abbrev pub told-settled : SettledReply
told-settled = Ok true

abbrev pub told-open : SettledReply
told-open = Ok false

-- ---- demand 1: anything may be handed in

-- the answer x to a call that runs the checks cs and was handed the record r: its number is that of the first check that fails,
-- in its case and in no other; "Every refused call returns its number with the record exactly as handed in"
pub record Judged (cs : List Check) (r : Record) (x : Answer) : Type 0 where
  pub number : Answers cs x.number
  pub handed_back : x.number ≢ 0 → x.next ≡ r

-- the places of the record r that are in use are exactly the stretches of the pairs f, and its count is how many there are
pub record HoldsStretches (b : List ℕ) (f : Pairs) (r : Record) : Type 0 where
  pub places : (x : Stretch) → Memᴰ x (take r.count r.places) ↔ StretchOf b f x
  pub count : ThereAre r.count (StretchOf b f)

-- what each call and each question answers that is handed the bytes b and the record r, whatever they are; "a refused start
-- returns a record of all zeros"
pub record Answered (b : List ℕ) (r : Record) : Type 0 where
  pub at_start : (room : ℕ) (x : Answer) → x ≡ start_of b room → Judged (start_checks b room) blank_record x
  pub at_letter : (a : ℕ) (x : Answer) → x ≡ letter_of b r a → Judged (letter_checks b r a) r x
  pub at_span : (s : ℕ) (x : Answer) → x ≡ span_of b r s → Judged (span_checks b r s) r x
  pub at_gap : (x : Answer) → x ≡ gap_of b r → Judged (record_checks b r) r x
  pub at_verdict : (v : VerdictReply) → verdict_reply v ≡ verdict_of b r
      → Answers (record_checks b r) (reply_number (verdict_reply v))
  pub at_settled : (v : SettledReply) → settled_reply v ≡ settled_of b r
      → Answers (record_checks b r) (reply_number (settled_reply v))
  pub at_count : (v : CountReply) → count_reply v ≡ count_of b r
      → Answers (record_checks b r) (reply_number (count_reply v))
  -- what a proper record of 64 places holds and counts are the stretches of its pairs, and that count is told
  pub held : AllPass (record_checks b r) → length r.places ≡ 64 → HoldsStretches b (pairs_of b r) r
  pub told : AllPass (record_checks b r) → (v : CountReply) → count_reply v ≡ count_of b r → v ≡ Ok r.count
  -- and what the record after an accepted letter holds and counts are the stretches that 11 goes by
  pub held_after : (a : ℕ) (x : Answer) → x ≡ letter_of b r a → x.number ≡ 0
      → HoldsStretches b (stepped b r (letter a)) x.next

abbrev pub Demand1 : Type 0
Demand1 = (b : List ℕ) (r : Record) → Answered b r

-- ---- demand 2: with no gap since the start

-- the verdict v on the symbols w: "yes exactly when some accepting run exists over the accepted symbols; otherwise no". So it
-- is never unsure, and never refused
pub record AsRunsSay (T : Table) (w : Word) (v : VerdictReply) : Type 0 where
  pub yes : (v ≡ told-yes) ↔ Accepted T w
  pub no : (v ≡ told-no) ↔ (¬ Accepted T w)
  pub never_unsure : v ≢ told-unsure
  pub never_refused : (f : Fault) → v ≢ Err f

-- for every table and room that a start accepted and all calls since then, none of them an accepted gap: w are the symbols
-- accepted so far, r the record handed back last, and v what `verdict` answers of it
abbrev pub Demand2 : Type 0
Demand2 = (b : List ℕ) (w : Word) (r : Record) → Stream b the_start w r
    → (v : VerdictReply) → verdict_reply v ≡ verdict_of b r
    → AsRunsSay (table_of b) w v

-- ---- demand 3: after a gap

-- "any set of configurations, the empty one too, may have stood at its end": from every such set the symbols w lead to
-- acceptance; or from none
abbrev pub FromEvery : Table → Word → Type 1
FromEvery T w = (S : Confs) → Over T S → Accepts T (after T S w)

abbrev pub FromNone : Table → Word → Type 1
FromNone T w = (S : Confs) → Over T S → ¬ Accepts T (after T S w)

-- from one such set they do, and from one they do not
abbrev pub FromSome : Table → Word → Type 1
FromSome T w = (S : Confs) × Over T S × Accepts T (after T S w)

abbrev pub NotFromSome : Table → Word → Type 1
NotFromSome T w = (S : Confs) × Over T S × (¬ Accepts T (after T S w))

-- all those sets led to one and the same set, "ages beyond the horizon counted as one"
abbrev pub ToOne : Table → Word → Type 1
ToOne T w = (R S : Confs) → Over T R → Over T S → Same (horizon T) (after T R w) (after T S w)

-- the verdict v on the symbols w, and s whether it is settled: "yes exactly if the symbols since lead to acceptance from every
-- such set, no exactly if from none, unsure otherwise; settled exactly if all those sets led to one and the same set"
pub record AsSetsSay (T : Table) (w : Word) (v : VerdictReply) (s : SettledReply) : Type 1 where
  pub yes : (v ≡ told-yes) ↔ FromEvery T w
  pub no : (v ≡ told-no) ↔ FromNone T w
  pub unsure : (v ≡ told-unsure) ↔ ((¬ FromEvery T w) × (¬ FromNone T w))
  pub differ : (v ≡ told-unsure) ↔ (FromSome T w × NotFromSome T w)
  pub settled : (s ≡ told-settled) ↔ ToOne T w
  pub left_open : (s ≡ told-open) ↔ (¬ ToOne T w)
  pub never_refused : (f : Fault) → (v ≢ Err f) × (s ≢ Err f)

-- for every table and room that a start accepted and all calls since then, with a gap among them: w are the symbols accepted
-- since the last one, r the record handed back last, and v and s what `verdict` and `settled` answer of it
abbrev pub Demand3 : Type 1
Demand3 = (b : List ℕ) (w : Word) (r : Record) → Stream b a_gap w r
    → (v : VerdictReply) → verdict_reply v ≡ verdict_of b r
    → (s : SettledReply) → settled_reply s ≡ settled_of b r
    → AsSetsSay (table_of b) w v s

-- ---- so no yes and no no is false, however much was lost

-- of the verdict v on the symbols w since a gap
pub record Right (b : List ℕ) (w : Word) (v : VerdictReply) : Type 1 where
  -- whatever really stood at the gap's end: a yes, or a no, is what holds of the set that it has become since
  pub yes_of_sets : v ≡ told-yes → (S : Confs) → Over (table_of b) S → Accepts (table_of b) (after (table_of b) S w)
  pub no_of_sets : v ≡ told-no → (S : Confs) → Over (table_of b) S → ¬ Accepts (table_of b) (after (table_of b) S w)
  -- whatever symbols u really came until then, heard or lost: it is what holds of all of them and those since
  pub yes_of_all : v ≡ told-yes → (u : Word) → Accepted (table_of b) (u ⧺ w)
  pub no_of_all : v ≡ told-no → (u : Word) → ¬ Accepted (table_of b) (u ⧺ w)
  -- and it is what a watch says that has lost nothing of them, in whatever room
  pub as_with_nothing_lost : v ≢ told-unsure → (u : Word) (r : Record) → Stream b the_start (u ⧺ w) r
      → (z : VerdictReply) → verdict_reply z ≡ verdict_of b r → v ≡ z

abbrev pub NeverFalse : Type 1
NeverFalse = (b : List ℕ) (w : Word) (r : Record) → Stream b a_gap w r
    → (v : VerdictReply) → verdict_reply v ≡ verdict_of b r
    → Right b w v
