-- A table as the automaton that it writes: its states, its lines, what a line asks of an age, and the horizon. The bytes are
-- read and not judged here. Assumes nothing: these are definitions.
use Rattle.std.specs.Prelude.{ℕ, ◌≤◌, max, ◌≡◌, ◌⊎◌, List, Bool, cond, eqb}
use Rattle.base.specs.Masks.{most}
use Rattle.table.specs.declared.Line.{Line}
use Rattle.table.specs.Table.{head_of, line_at}

-- the parts of a table (document 01, The table): n, m, the three sets of states as masks, e, and line k for each k below e
pub record Table : Type 0 where
  pub states : ℕ
  pub letters : ℕ
  pub initial : ℕ
  pub standing : ℕ
  pub accepting : ℕ
  pub lines : ℕ
  pub line : ℕ → Line

-- the table that the bytes b write
unfoldable pub table_of : List ℕ → Table
table_of b =
    record {
      states = (head_of b).states;
      letters = (head_of b).letters;
      initial = (head_of b).initial;
      standing = (head_of b).standing;
      accepting = (head_of b).accepting;
      lines = (head_of b).lines;
      line = line_at b;
    }

-- "U = 4,294,967,295 means no upper bound"
abbrev pub no_bound : ℕ
no_bound = 4294967295

-- "L ≤ t ≤ U", both ends in; without an upper bound, L ≤ t
abbrev pub Meets : Line → ℕ → Type 0
Meets l t = (l.least ≤ t) × ((l.greatest ≡ no_bound) ⊎ (t ≤ l.greatest))

-- "flag 1 resets the clock, 0 keeps it"
abbrev pub resets : Line → Bool
resets l = eqb l.flags 1

-- the age behind a line that was taken at age t: "(to, t), or (to, 0) where the line resets"
abbrev pub age_after : Line → ℕ → ℕ
age_after l t = cond (resets l) 0 t

-- the larger of L and U, a U of no bound left out
abbrev pub line_top : Line → ℕ
line_top l = max l.least (cond (eqb l.greatest no_bound) 0 l.greatest)

-- "The horizon H is the largest L or finite U in any line, 0 if there are no lines."
unfoldable pub horizon : Table → ℕ
horizon T = most T.lines (λ k. line_top (T.line k))

-- the states that accept at age t; today they are the same at every age ("whose state is accepting, at any age")
unfoldable pub accepting_at : Table → ℕ → ℕ
accepting_at T t = T.accepting
