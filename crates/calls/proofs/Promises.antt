-- What each call promises settles its answer: two answers that meet the promise are the same (`start_settles`,
-- `letter_settles`, `span_settles`, `gap_settles`, `verdict_settles`, `settled_settles`, `count_settles`, `fault_settles`; the
-- steps: `letter_step-settles`, `span_step-settles`, `gap_step-settles`; the check: `check_record_settles`). An answer of the
-- code stands for one answer alone (`answered-one`, `accepted-one`, `replied-one`), so it is settled as well; and of each question
-- there is one (`verdict_there`, `settled_there`, `count_there`). Assumes nothing.
use Prim.Native.Nat.{ℕ}
use mathlib.Core.Path.{◌≡◌, refl, sym, ap, ◌∙◌, subst}
use mathlib.Core.HLevel.{is_prop→PathP}
use mathlib.Core.List.{List}
use mathlib.Core.Bool.{true, Bool-set}
use denote.Ref.{Bor}
use Rattle.std.specs.Prelude.{IfOk}
use Rattle.meaning.specs.Tables.{table_of, horizon}
use Rattle.record.specs.declared.Record.{Record}
use Rattle.record.specs.Records.{properb}
use Rattle.record.specs.Verdicts.{Verdict, says_yes, says_no, unsure, verdict_at}
use Rattle.std.proofs.Common.{Result, Ok, Err}
use Rattle.faults.specs.declared.Fault.{Fault}
use Rattle.faults.specs.Numbered.{number, number_of}
use Rattle.faults.specs.declared.Fault.TheVariants.{Improper}
use Rattle.faults.proofs.Numbered.{Earned, earned-if, earned-then, table_fault-earned, number-some, number-one, Cosingl-along, sound_table-one}
use Rattle.known.specs.declared.Known.{Known}
use Rattle.verdicts.specs.declared.Verdict.{Verdict as Case}
use Rattle.verdicts.specs.declared.Verdict.TheVariants.{Yes, No, Unsure}
use Rattle.verdicts.specs.Said.{verdict_case}
use Rattle.verdicts.proofs.Laws.{verdict_case-one}
use mathlib.Core.Logic.{inl, inr}
use Rattle.calls.specs.declared.Answer.{Answer}
use Rattle.calls.specs.declared.Refusal.{Refusal}
use Rattle.calls.proofs.Steps.{ask_refused}
use Rattle.calls.specs.Calls.{pairs_of, reply, record_fault, start_of, letter_of, span_of, gap_of, letter_step, span_step, gap_step, Reply, refused, told, reply_number, verdict_of, settled_of, count_of, accepted, refusal, answered, VerdictReply, SettledReply, CountReply, replied, verdict_reply, settled_reply, count_reply}

-- two results that meet the promise P are the same
abbrev pub Settles : {A : Type 0} → (A → Type 0) → Type 0
Settles {A} P = (x y : A) → P x → P y → x ≡ y

-- so it is wherever a promise is an equation
pub equal_settles : {A : Type 0} (v : A) → Settles (λ (x : A). x ≡ v)
equal_settles v x y p q = p ∙ sym q

-- ---- two replies that are the same have the same number, or the same value

abbrev Told : {A : Type 0} → Reply A → Type 0
Told (refused n) = ⊥
Told (told a) = Unit {0}

pub not_both : {A : Type 0} {n : ℕ} {a : A} → ¬ (◌≡◌ {A = Reply A} (refused n) (told a))
not_both e = subst Told (sym e) tt

same_number : {A : Type 0} {m n : ℕ} → ◌≡◌ {A = Reply A} (refused m) (refused n) → m ≡ n
same_number e = ap reply_number e

abbrev value_or : {A : Type 0} → A → Reply A → A
value_or d (refused n) = d
value_or d (told a) = a

pub same-value : {A : Type 0} {a b : A} → told a ≡ told b → a ≡ b
same-value {A} {a} {b} e = ap (value_or a) e

-- ---- so each case of an answer stands for one reply alone, or one answer

pub replied-one : {A B : Type 0} (f : A → B) → ((a c : A) → f a ≡ f c → a ≡ c) → (x y : Result A Fault)
    → replied f x ≡ replied f y → x ≡ y
replied-one f one (Err m) (Err n) e = ap Err (number-one m n (same_number e))
replied-one f one (Err m) (Ok a) e = absurd (not_both e)
replied-one f one (Ok a) (Err n) e = absurd (not_both (sym e))
replied-one f one (Ok a) (Ok c) e = ap Ok (one a c (same-value e))

pub verdict_reply-one : (x y : VerdictReply) → verdict_reply x ≡ verdict_reply y → x ≡ y
verdict_reply-one = replied-one _ verdict_case-one

pub settled_reply-one : (x y : SettledReply) → settled_reply x ≡ settled_reply y → x ≡ y
settled_reply-one = replied-one _ (λ a c e. e)

pub count_reply-one : (x y : CountReply) → count_reply x ≡ count_reply y → x ≡ y
count_reply-one = replied-one _ (λ a c e. e)

pub accepted-one : (x y : Record) → accepted x ≡ accepted y → x ≡ y
accepted-one x y e = ap (λ (a : Answer). a.next) e

refusal-one : (x y : Refusal) → refusal (number x.fault) x.held ≡ refusal (number y.fault) y.held → x ≡ y
refusal-one x y e =
    let why = number-one x.fault y.fault (ap (λ (a : Answer). a.number) e) in
    let back = ap (λ (a : Answer). a.next) e in
    λ i. record { fault = why i; held = back i }

pub answered-one : (x y : Result Record Refusal) → answered x ≡ answered y → x ≡ y
answered-one (Err m) (Err n) e = ap Err (refusal-one m n e)
answered-one (Err m) (Ok a) e = absurd (number-some m.fault (ap (λ (a : Answer). a.number) e))
answered-one (Ok a) (Err n) e = absurd (number-some n.fault (ap (λ (a : Answer). a.number) (sym e)))
answered-one (Ok a) (Ok c) e = ap Ok (accepted-one a c e)

-- ---- the promises of the library's face

module _ (b : List ℕ) (r : Record) where
  pub fault_settles : Settles (λ (x : ℕ). x ≡ record_fault b r)
  fault_settles = equal_settles (record_fault b r)

  pub start_settles : (room : ℕ) → Settles (λ (x : Answer). x ≡ start_of b room)
  start_settles room = equal_settles (start_of b room)

  pub letter_settles : (a : ℕ) → Settles (λ (x : Answer). x ≡ letter_of b r a)
  letter_settles a = equal_settles (letter_of b r a)

  pub span_settles : (s : ℕ) → Settles (λ (x : Answer). x ≡ span_of b r s)
  span_settles s = equal_settles (span_of b r s)

  pub letter_step-settles : (a : ℕ) → Settles (λ (x : Answer). x ≡ letter_step b r a)
  letter_step-settles a = equal_settles (letter_step b r a)

  pub span_step-settles : (s : ℕ) → Settles (λ (x : Answer). x ≡ span_step b r s)
  span_step-settles s = equal_settles (span_step b r s)

  pub gap_step-settles : Settles (λ (x : Answer). x ≡ gap_step b r)
  gap_step-settles = equal_settles (gap_step b r)

  pub gap_settles : Settles (λ (x : Answer). x ≡ gap_of b r)
  gap_settles = equal_settles (gap_of b r)

  pub verdict_settles : Settles (λ (x : VerdictReply). verdict_reply x ≡ verdict_of b r)
  verdict_settles x y p q = verdict_reply-one x y (p ∙ sym q)

  pub settled_settles : Settles (λ (x : SettledReply). settled_reply x ≡ settled_of b r)
  settled_settles x y p q = settled_reply-one x y (p ∙ sym q)

  pub count_settles : Settles (λ (x : CountReply). count_reply x ≡ count_of b r)
  count_settles x y p q = count_reply-one x y (p ∙ sym q)

-- ---- the same of what the code answers

pub answered_settles : (v : Answer) → Settles (λ (x : Result Record Refusal). answered x ≡ v)
answered_settles v x y p q = answered-one x y (p ∙ sym q)

pub accepted_settles : (v : Answer) → Settles (λ (x : Record). accepted x ≡ v)
accepted_settles v x y p q = accepted-one x y (p ∙ sym q)

-- ---- the same of the check under the calls: its number, the table that was lent, the record that was handed in

-- the bytes settle the horizon, and each fact beside them has one proof
pub known-one : (x y : Known) → x.table.bytes ≡ y.table.bytes → x.held ≡ y.held → x ≡ y
known-one x y e f =
    let table = sound_table-one x.table y.table e in
    let far = Cosingl-along (ap (λ t. horizon (table_of t.bytes.now)) table) (x.horizon, x.reach) (y.horizon, y.reach) in
    let fits = is_prop→PathP (λ j. properb (far j).0 (table j).head.states (f j) ≡ true) (λ j. Bool-set _ _) x.proper y.proper in
    λ i. record { table = table i; horizon = (far i).0; held = f i; reach = (far i).1; proper = fits i }

pub check_record_settles : (t : Bor (List ℕ)) (r : Record) → Settles (λ (x : Result Known Fault).
    (number_of x ≡ record_fault t.now r) × IfOk x (λ known. known.table.bytes ≡ t) × IfOk x (λ known. known.held ≡ r))
check_record_settles t r (Err m) (Err n) p q = ap Err (number-one m n (p.0 ∙ sym q.0))
check_record_settles t r (Err m) (Ok c) p q = absurd (number-some m (p.0 ∙ sym q.0))
check_record_settles t r (Ok a) (Err n) p q = absurd (number-some n (q.0 ∙ sym p.0))
check_record_settles t r (Ok a) (Ok c) p q = ap Ok (known-one a c (p.1 ∙ sym q.1) (p.2 ∙ sym q.2))

-- ---- and of each question there is such an answer: what is refused is one of the refusals

record_fault-earned : (b : List ℕ) (r : Record) → Earned (record_fault b r)
unfolding record_fault
record_fault-earned b r = earned-then _ _ (table_fault-earned b) (earned-if Improper _)

reply-there : {A B : Type 0} (f : A → B) (n : ℕ) → Earned n → (a : A) (v : B) → f a ≡ v
    → (x : Result A Fault) × (replied f x ≡ reply n v)
reply-there f n (inl z) a v e = (Ok a, rw z (ap told e))
reply-there f n (inr (g, h)) a v e = (Err g, ask_refused (number g) n v h (number-some g))

case_of : (v : Verdict) → (c : Case) × (verdict_case c ≡ v)
case_of says_yes = (Yes, refl)
case_of says_no = (No, refl)
case_of unsure = (Unsure, refl)

module _ (b : List ℕ) (r : Record) where
  pub verdict_there : (v : VerdictReply) × (verdict_reply v ≡ verdict_of b r)
  unfolding verdict_of
  verdict_there = let c = case_of (verdict_at (table_of b) (pairs_of b r)) in
      reply-there _ _ (record_fault-earned b r) c.0 _ c.1

  pub settled_there : (v : SettledReply) × (settled_reply v ≡ settled_of b r)
  unfolding settled_of
  settled_there = reply-there _ _ (record_fault-earned b r) _ _ refl

  pub count_there : (v : CountReply) × (count_reply v ≡ count_of b r)
  unfolding count_of
  count_there = reply-there _ _ (record_fault-earned b r) _ _ refl
