-- What a span makes of the pairs of all ages, and of a stretch. Assumes nothing: these are definitions.
use Rattle.std.specs.Prelude.{ℕ, ◌+◌, min, cond, leb, ltb}
use Rattle.meaning.specs.Ages.{span_at}
use Rattle.record.specs.declared.Pair.{Pair}
use Rattle.record.specs.declared.Stretch.{Stretch}
use Rattle.record.specs.declared.Record.{Record}
use Rattle.record.specs.Pairs.{Pairs, no_pair, sures, possibles}
use Rattle.record.specs.Building.{pushed}

-- the pairs after the span s, by the horizon alone: "Letters and spans step both", each set by itself
unfoldable pub span_pairs : ℕ → ℕ → Pairs → Pairs
span_pairs H s f k = record { sure = span_at H s (sures f) k; possible = span_at H s (possibles f) k }

-- what passes H of the stretch x: its pair, if its last age does
abbrev pub passed_in : ℕ → ℕ → Stretch → Pair
passed_in H s x = cond (ltb H (x.last + s)) x.pair no_pair

-- what stays within 0 to H of the stretch x, pushed: from its first age, if that does not pass H, to its last or to H
abbrev pub moved_in : ℕ → ℕ → Stretch → Record → Record
moved_in H s x r = cond (leb (x.first + s) H) (pushed r (x.first + s) (min (x.last + s) H) x.pair) r
