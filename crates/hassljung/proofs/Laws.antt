-- Nothing of a question's answer is lost where it crosses to C: whoever reads what crossed has it again (`verdict_read` and its
-- likes). Assumes nothing.
use Prim.Native.Nat.{ℕ, zero, suc}
use mathlib.Core.Path.{◌≡◌, refl}
use mathlib.Core.Bool.{Bool, cond}
use lib.Dec.{eqb}
use Rattle.record.specs.Verdicts.{Verdict, says_yes, says_no, unsure}
use Rattle.calls.specs.Calls.{Reply, reply}
use Rattle.hassljung.specs.declared.VerdictAnswer.{VerdictAnswer}
use Rattle.hassljung.specs.declared.SettledAnswer.{SettledAnswer}
use Rattle.hassljung.specs.declared.CountAnswer.{CountAnswer}
use Rattle.hassljung.specs.Crossing.{verdict_answer, settled_answer, count_answer}

-- ---- what C reads: a number that is not 0 is a refusal, and only else is there something told

abbrev read_number : ℕ → Verdict
read_number n = cond (eqb n 1) says_yes (cond (eqb n 2) says_no unsure)

abbrev pub read_verdict : VerdictAnswer → Reply Verdict
read_verdict x = reply x.number (read_number x.verdict)

abbrev pub read_settled : SettledAnswer → Reply Bool
read_settled x = reply x.number x.settled

abbrev pub read_count : CountAnswer → Reply ℕ
read_count x = reply x.number x.count

pub verdict_read : (n : ℕ) (v : Verdict) → read_verdict (verdict_answer (reply n v)) ≡ reply n v
verdict_read zero says_yes = refl
verdict_read zero says_no = refl
verdict_read zero unsure = refl
verdict_read (suc n) v = refl

pub settled_read : (n : ℕ) (b : Bool) → read_settled (settled_answer (reply n b)) ≡ reply n b
settled_read zero b = refl
settled_read (suc n) b = refl

pub count_read : (n : ℕ) (c : ℕ) → read_count (count_answer (reply n c)) ≡ reply n c
count_read zero c = refl
count_read (suc n) c = refl
