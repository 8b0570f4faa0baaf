-- What the two sets say: the verdict, and whether they are settled (document 01, Configurations and steps). `unsure` means that
-- neither yes nor no would be right for every set that may have stood at the gap's end; it never means no. Assumes nothing:
-- these are definitions.
use Rattle.std.specs.Prelude.{Bool, true, false, eqb}
use Rattle.base.specs.Masks.{all}
use Rattle.meaning.specs.Tables.{Table, horizon}
use Rattle.meaning.specs.Ages.{ages, accepts_at}
use Rattle.record.specs.Pairs.{Pairs, sures, possibles}

pub data Verdict : Type 0 where
  says_yes : Verdict
  says_no : Verdict
  unsure : Verdict

-- "yes if the sure set accepts; no if the possible set doesn't; unsure otherwise": s says whether the sure set accepts, p
-- whether the possible set does
abbrev pub decide : Bool → Bool → Verdict
decide true p = says_yes
decide false false = says_no
decide false true = unsure

-- the verdict on the pairs f
unfoldable pub verdict_at : Table → Pairs → Verdict
verdict_at T f = decide (accepts_at T (sures f)) (accepts_at T (possibles f))

-- "Settled: the two sets are equal, all ages above H taken as one."
unfoldable pub settled_at : Table → Pairs → Bool
settled_at T f = all (ages (horizon T)) (λ k. eqb (f k).sure (f k).possible)
