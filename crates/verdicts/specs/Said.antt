-- What the places of a record say of the verdict and of settled, and which verdict of document 01 each answer is, and which
-- number. Assumes nothing: these are definitions.
use Rattle.std.specs.Prelude.{ℕ, Bool, ◌&&◌, eqb}
use Rattle.std.specs.Int.Bits.{bit_and}
use Rattle.base.specs.Masks.{all}
use Rattle.record.specs.declared.Pair.{Pair}
use Rattle.record.specs.declared.Record.{Record}
use Rattle.record.specs.Pairs.{both, together}
use Rattle.record.specs.Records.{place}
use Rattle.record.specs.Verdicts.{Verdict, says_yes, says_no, unsure}
use Rattle.verdicts.specs.declared.Verdict.{Verdict as Case}
use Rattle.verdicts.specs.declared.Verdict.TheVariants.{Yes, No, Unsure}

-- "The verdict is written as `yes`, `no` or `unsure`": what each case of the answer stands for
abbrev pub verdict_case : Case → Verdict
verdict_case Yes = says_yes
verdict_case No = says_no
verdict_case Unsure = unsure

-- the verdict as a number, "1 yes, 2 no, 3 unsure" as document 02's sixth request writes it; 0 is none of them
abbrev pub verdict_number : Verdict → ℕ
verdict_number says_yes = 1
verdict_number says_no = 2
verdict_number unsure = 3

-- the accepting states of a pair
abbrev pub accepted_of : ℕ → Pair → Pair
accepted_of accepting p = record { sure = bit_and p.sure accepting; possible = bit_and p.possible accepting }

-- those of all places in use and above H, as one
unfoldable pub accepted_in : ℕ → Record → Pair
accepted_in accepting r =
    both (together r.count (λ i. accepted_of accepting (place r i).pair)) (accepted_of accepting r.above)

-- the two sets of the pair are equal
abbrev pub equal_sets : Pair → Bool
equal_sets p = eqb p.sure p.possible

-- in the pair above H, and in every place in use
unfoldable pub settled_in : Record → Bool
settled_in r = equal_sets r.above && all r.count (λ i. equal_sets (place r i).pair)
