-- A table that passes the checks 1 to 7, clause by clause, as facts about its numbers: what is left when none of the cases of
-- document 01, Numbers a call can answer with, is met. Assumes nothing: these are definitions.
use Rattle.std.specs.Prelude.{ℕ, ◌+◌, ◌*◌, ◌^◌, ◌≤◌, ◌<◌, ◌≡◌, ◌⊎◌, List, length}
use Rattle.table.specs.declared.Head.{Head}
use Rattle.table.specs.declared.Line.{Line}
use Rattle.table.specs.Table.{head_of, line_at}
use Rattle.meaning.specs.Tables.{no_bound}
use Rattle.faults.specs.Faults.{longest_age}

-- A line that passes, in document 01's words for 6 and 7, turned round: "a line's from or to is n or above, letter m or above,
-- or flags above 1", and "L above 31,622,400; U above that and not the none value; U below L"
pub record SoundLine (h : Head) (l : Line) : Type 0 where
  pub from : l.from < h.states
  pub to : l.to < h.states
  pub letter : l.letter < h.letters
  pub flags : l.flags ≤ 1
  pub least : l.least ≤ longest_age
  pub top : (l.greatest ≡ no_bound) ⊎ (l.greatest ≤ longest_age)
  pub order : l.least ≤ l.greatest

-- A table that passes, in document 01's words for 1 to 5, turned round: "table shorter than 12 bytes", "version not 1", "n, m
-- or e outside its range", "stated length not 12 + 12e, or not the slice's length", "a mask has a bit for state n or above".
-- Then every line passes.
pub record Sound (b : List ℕ) : Type 0 where
  pub headed : 12 ≤ length b
  pub version : (head_of b).version ≡ 1
  pub some_state : 1 ≤ (head_of b).states
  pub states : (head_of b).states ≤ 16
  pub some_letter : 1 ≤ (head_of b).letters
  pub letters : (head_of b).letters ≤ 32
  pub lines : (head_of b).lines ≤ 64
  pub stated : (head_of b).length ≡ 12 + 12 * (head_of b).lines
  pub whole : (head_of b).length ≡ length b
  pub initial : (head_of b).initial < 2 ^ (head_of b).states
  pub standing : (head_of b).standing < 2 ^ (head_of b).states
  pub accepting : (head_of b).accepting < 2 ^ (head_of b).states
  pub line : (k : ℕ) → k < (head_of b).lines → SoundLine (head_of b) (line_at b k)
