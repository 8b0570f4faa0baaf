-- What is known where the checks 1 to 8 have passed. Assumes nothing: these are definitions.
use Rattle.std.specs.Prelude.{ℕ, ◌≡◌, List}
use Rattle.meaning.specs.Tables.{table_of, horizon}
use Rattle.faults.specs.Sound.{Sound}
use Rattle.record.specs.declared.Record.{Record}
use Rattle.record.specs.Records.{Proper}

-- the bytes b are a table that passes, H is its horizon, and r is a proper record for it
pub record Known (b : List ℕ) (H : ℕ) (r : Record) : Type 0 where
  pub sound : Sound b
  pub reach : H ≡ horizon (table_of b)
  pub proper : Proper H (table_of b).states r
