-- What crosses to C of a question's answer: "a definition gives this paper's number and values for each of the enum's cases"
-- (document 01, Each place and its form). Assumes nothing: these are definitions.
use Rattle.std.specs.Prelude.{ℕ, Bool, false}
use Rattle.record.specs.Verdicts.{Verdict}
use Rattle.verdicts.specs.Said.{verdict_number}
use Rattle.calls.specs.Calls.{Reply, refused, told}
use Rattle.hassljung.specs.declared.VerdictAnswer.{VerdictAnswer}
use Rattle.hassljung.specs.declared.SettledAnswer.{SettledAnswer}
use Rattle.hassljung.specs.declared.CountAnswer.{CountAnswer}

-- "refused, it gives its number and nothing else"; "An accepted call carries the number 0"
abbrev pub verdict_answer : Reply Verdict → VerdictAnswer
verdict_answer (refused n) = record { number = n; verdict = 0 }
verdict_answer (told v) = record { number = 0; verdict = verdict_number v }

-- the same of settled: refused, it is false
abbrev pub settled_answer : Reply Bool → SettledAnswer
settled_answer (refused n) = record { number = n; settled = false }
settled_answer (told b) = record { number = 0; settled = b }

-- the same of the count: refused, it is 0
abbrev pub count_answer : Reply ℕ → CountAnswer
count_answer (refused n) = record { number = n; count = 0 }
count_answer (told n) = record { number = 0; count = n }
