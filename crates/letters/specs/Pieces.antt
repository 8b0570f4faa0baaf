-- A stretch, piece by piece. Assumes nothing: these are definitions.
use Rattle.std.specs.Prelude.{suc, ◌≤◌, ◌<◌, ◌≡◌, Option, None, Some}
use Rattle.meaning.specs.Tables.{table_of}
use Rattle.record.specs.declared.Stretch.{Stretch}
use Rattle.image.specs.Images.{up_to, piece_of}
use Rattle.letters.specs.declared.Pieces.{Pieces}

-- the table, the kind of line, the letter, the last age and the pair stay
pub record SameWalk (s t : Pieces) : Type 0 where
  pub table : t.table.now ≡ s.table.now
  pub reset : t.reset ≡ s.reset
  pub letter : t.letter ≡ s.letter
  pub last : t.rest.last ≡ s.rest.last
  pub pair : t.rest.pair ≡ s.rest.pair

-- what s gives is the piece that begins the ages left, with where the letter leads from it, and the ages behind it are left
pub record GivesFirst (s : Pieces) (x : Stretch) (t : Pieces) : Type 0 where
  pub some : s.rest.first ≤ s.rest.last
  pub first : x.first ≡ s.rest.first
  pub led : up_to x.last x.pair ≡ piece_of (table_of s.table.now.bytes.now) s.reset s.letter s.rest.first s.rest.last s.rest.pair
  pub next : t.rest.first ≡ suc x.last
  pub same : SameWalk s t

-- that, or no age is left
abbrev pub GivesPiece : Pieces → Option Stretch → Pieces → Type 0
GivesPiece s None t = s.rest.last < s.rest.first
GivesPiece s (Some x) t = GivesFirst s x t
