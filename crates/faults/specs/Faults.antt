-- Whether a slice of bytes is a table: which of the numbers 1 to 7 it earns, 0 where it is one (document 01, Numbers a call
-- can answer with). "Checks run in this order, each only after the ones before it passed. Lines are checked in table order,
-- 6 before 7 within a line, and the first bad line decides." Assumes nothing: these are definitions.
use Rattle.std.specs.Prelude.{ℕ, ◌+◌, ◌*◌, List, Bool, ◌&&◌, ◌||◌, not, eqb, leb, ltb, length}
use Rattle.base.specs.Masks.{past_states}
use Rattle.base.specs.Checks.{◌if◌, ◌then◌, first_of}
use Rattle.table.specs.declared.Head.{Head}
use Rattle.table.specs.declared.Line.{Line}
use Rattle.table.specs.Table.{head_of, line_at}
use Rattle.meaning.specs.Tables.{no_bound}

-- the greatest age that a line may name
abbrev pub longest_age : ℕ
longest_age = 31622400

-- 3: "n, m or e outside its range", which is 1 to 16, 1 to 32 and 0 to 64
unfoldable pub bad_counts : Head → Bool
bad_counts h =
    eqb h.states 0 || ltb 16 h.states
    || eqb h.letters 0 || ltb 32 h.letters
    || ltb 64 h.lines

-- 4: "stated length not 12 + 12e, or not the slice's length"
unfoldable pub bad_length : Head → ℕ → Bool
bad_length h whole = not (eqb h.length (12 + 12 * h.lines)) || not (eqb h.length whole)

-- 5: "a mask has a bit for state n or above"
unfoldable pub bad_masks : Head → Bool
bad_masks h =
    past_states h.states h.initial
    || past_states h.states h.standing
    || past_states h.states h.accepting

-- 6: "a line's from or to is n or above, letter m or above, or flags above 1"
unfoldable pub bad_parts : Head → Line → Bool
bad_parts h l =
    leb h.states l.from || leb h.states l.to
    || leb h.letters l.letter
    || ltb 1 l.flags

-- "U above that and not the none value"
abbrev pub bad_greatest : ℕ → Bool
bad_greatest u = ltb longest_age u && not (eqb u no_bound)

-- 7: "L above 31,622,400; U above that and not the none value; U below L"
unfoldable pub bad_ages : Line → Bool
bad_ages l =
    ltb longest_age l.least
    || bad_greatest l.greatest
    || ltb l.greatest l.least

-- a line's number: "6 before 7 within a line"
unfoldable pub line_fault : Head → Line → ℕ
line_fault h l = 6 if bad_parts h l then 7 if bad_ages l

-- the table's number: "Checks run in this order", then "the first bad line decides"
unfoldable pub table_fault : List ℕ → ℕ
table_fault b =
    1 if ltb (length b) 12
    then 2 if not (eqb (head_of b).version 1)
    then 3 if bad_counts (head_of b)
    then 4 if bad_length (head_of b) (length b)
    then 5 if bad_masks (head_of b)
    then first_of (head_of b).lines (λ k. line_fault (head_of b) (line_at b k))
