-- Document 01's table of numbers, row by row and in its words, and the checks that each call runs, in their order. Nothing here
-- is a test that computes: each row is a fact of the bytes and the record. Assumes nothing: these are definitions.
use Rattle.std.specs.Prelude.{ℕ, zero, suc, ◌+◌, ◌*◌, ◌≤◌, ◌<◌, ◌≡◌, ◌≢◌, ◌⊎◌, List, [], ◌∷◌, ◌++◌, length}
use Rattle.base.specs.Masks.{Has}
use Rattle.table.specs.declared.Head.{Head}
use Rattle.table.specs.declared.Line.{Line}
use Rattle.table.specs.Table.{head_of, line_at}
use Rattle.meaning.specs.Tables.{table_of, no_bound, horizon}
use Rattle.meaning.specs.Runs.{letter}
use Rattle.faults.specs.Faults.{longest_age}
use Rattle.record.specs.declared.Stretch.{Stretch}
use Rattle.record.specs.declared.Record.{Record}
use Rattle.record.specs.Pairs.{Pairs}
use Rattle.record.specs.Stretches.{LongestRun}
use Rattle.calls.specs.Calls.{ProperFor, stepped}
use Rattle.demands.specs.Order.{Check, ◌when◌}
use Rattle.demands.specs.Counting.{ThereAre}

-- ---- the table: 1 to 7

-- 1: "table shorter than 12 bytes"
abbrev pub Short : List ℕ → Type 0
Short b = length b < 12

-- 2: "version not 1"
abbrev pub OtherVersion : List ℕ → Type 0
OtherVersion b = (head_of b).version ≢ 1

-- 3: "n, m or e outside its range", which is 1 to 16, 1 to 32 and 0 to 64
abbrev pub OutOfRange : Head → Type 0
OutOfRange h =
    (h.states < 1) ⊎ (16 < h.states)
    ⊎ (h.letters < 1) ⊎ (32 < h.letters)
    ⊎ (64 < h.lines)

-- 4: "stated length not 12 + 12e, or not the slice's length"
abbrev pub BadLength : List ℕ → Type 0
BadLength b = ((head_of b).length ≢ 12 + 12 * (head_of b).lines) ⊎ ((head_of b).length ≢ length b)

-- the mask has "a bit for state n or above"
abbrev pub HasFrom : ℕ → ℕ → Type 0
HasFrom n mask = (q : ℕ) × (n ≤ q) × Has mask q

-- 5: "a mask has a bit for state n or above"
abbrev pub BadMasks : Head → Type 0
BadMasks h = HasFrom h.states h.initial ⊎ HasFrom h.states h.standing ⊎ HasFrom h.states h.accepting

-- 6: "a line's from or to is n or above, letter m or above, or flags above 1"
abbrev pub BadParts : Head → Line → Type 0
BadParts h l = (h.states ≤ l.from) ⊎ (h.states ≤ l.to) ⊎ (h.letters ≤ l.letter) ⊎ (1 < l.flags)

-- 7: "L above 31,622,400; U above that and not the none value; U below L"
abbrev pub BadAges : Line → Type 0
BadAges l =
    (longest_age < l.least)
    ⊎ ((longest_age < l.greatest) × (l.greatest ≢ no_bound))
    ⊎ (l.greatest < l.least)

abbrev pub head_checks : List ℕ → List Check
head_checks b =
    1 when Short b
    ∷ 2 when OtherVersion b
    ∷ 3 when OutOfRange (head_of b)
    ∷ 4 when BadLength b
    ∷ 5 when BadMasks (head_of b)
    ∷ []

abbrev pub line_checks : Head → Line → List Check
line_checks h l = 6 when BadParts h l ∷ 7 when BadAges l ∷ []

-- "Lines are checked in table order, 6 before 7 within a line": the first e of them
unfoldable pub lines_checks : List ℕ → ℕ → List Check
lines_checks b zero = []
lines_checks b (suc e) = lines_checks b e ++ line_checks (head_of b) (line_at b e)

abbrev pub table_checks : List ℕ → List Check
table_checks b = head_checks b ++ lines_checks b (head_of b).lines

-- ---- the calls: 8 to 11

-- a stretch of the pairs f: "a longest run of consecutive ages in 0 to H with the same pair and a non-empty possible set"
abbrev pub StretchOf : List ℕ → Pairs → Stretch → Type 0
StretchOf b f = LongestRun (horizon (table_of b)) f

-- 8, of a start: "room outside 1 to 64 at a start"
abbrev pub BadRoom : ℕ → Type 0
BadRoom room = (room < 1) ⊎ (64 < room)

abbrev pub start_checks : List ℕ → ℕ → List Check
start_checks b room = table_checks b ++ 8 when BadRoom room ∷ []

-- 8, of every other call: "a record that isn't proper". A gap and the questions have no check behind it
abbrev pub record_checks : List ℕ → Record → List Check
record_checks b r = table_checks b ++ 8 when (¬ ProperFor b r) ∷ []

-- 9: "letter m or above"
abbrev pub NoLetter : List ℕ → ℕ → Type 0
NoLetter b a = (table_of b).letters ≤ a

-- 11: "the count after the letter would exceed the room": of the pairs after the letter a there are more stretches than that
abbrev pub WantsRoom : List ℕ → Record → ℕ → Type 0
WantsRoom b r a = (n : ℕ) × ThereAre n (StretchOf b (stepped b r (letter a))) × (r.room < n)

abbrev pub letter_checks : List ℕ → Record → ℕ → List Check
letter_checks b r a = record_checks b r ++ 9 when NoLetter b a ∷ 11 when WantsRoom b r a ∷ []

-- 10: "span 0 or above 2,147,483,647"
abbrev pub BadSpan : ℕ → Type 0
BadSpan s = (s ≡ 0) ⊎ (2147483647 < s)

abbrev pub span_checks : List ℕ → Record → ℕ → List Check
span_checks b r s = record_checks b r ++ 10 when BadSpan s ∷ []
