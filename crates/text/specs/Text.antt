-- The lines that the program prints, as lists of bytes in ASCII (document 01, The program `watch`): "Each output line has the
-- ordinal (0 for the start), the verdict, `settled` or `open`, and the count, with one space between and a newline after."
-- Assumes nothing: these are definitions.
use Rattle.std.specs.Prelude.{ℕ, ◌+◌, ◌≤◌, ◌≡◌, List, [], ◌∷◌, ◌++◌, Bool, cond, ltb, length, take}
use Prim.Native.Char.{code}
use Prim.Native.String.{String, [] as no_text, ◌∷◌ as ◌and_then◌}
use Rattle.io.specs.Digits.{last_digits}
use Rattle.text.specs.declared.Lines.{Lines}
use Rattle.record.specs.Verdicts.{Verdict, says_yes, says_no, unsure}

-- the bytes of a text of ASCII characters
abbrev pub ascii : String → List ℕ
ascii no_text = []
ascii (c and_then s) = code c ∷ ascii s

-- how many digits a number below 100,000 has; an ordinal is below 16,384 and a count or a number of a refusal below 256
abbrev pub places : ℕ → ℕ
places n = cond (ltb n 10) 1 (cond (ltb n 100) 2 (cond (ltb n 1000) 3 (cond (ltb n 10000) 4 5)))

-- a number below 100,000 in decimal, with no zeros in front but for 0 itself
unfoldable pub decimal : ℕ → List ℕ
decimal n = last_digits 10 (places n) n

abbrev pub space : ℕ
space = 32

abbrev pub newline : ℕ
newline = 10

-- "The verdict is written as `yes`, `no` or `unsure`."
abbrev pub verdict_text : Verdict → List ℕ
verdict_text says_yes = ascii "yes"
verdict_text says_no = ascii "no"
verdict_text unsure = ascii "unsure"

-- "`settled` or `open`"
abbrev pub settled_text : Bool → List ℕ
settled_text same = cond same (ascii "settled") (ascii "open")

-- "A refusal is the ordinal, `refused` and the number."
abbrev pub refused_text : List ℕ
refused_text = ascii "refused"

-- a word of a line that is not its first: one space and the word
abbrev pub verdict_word : Verdict → List ℕ
verdict_word v = space ∷ verdict_text v

abbrev pub settled_word : Bool → List ℕ
settled_word same = space ∷ settled_text same

-- the number that a line ends with, and the newline
abbrev pub last_word : ℕ → List ℕ
last_word n = space ∷ decimal n ++ newline ∷ []

-- the ordinal, the verdict, `settled` or `open`, and the count
unfoldable pub line_text : ℕ → Verdict → Bool → ℕ → List ℕ
line_text ordinal v same count = decimal ordinal ++ verdict_word v ++ settled_word same ++ last_word count

-- "A refusal is the ordinal, `refused` and the number."
unfoldable pub refusal_text : ℕ → ℕ → List ℕ
refusal_text ordinal number = decimal ordinal ++ (space ∷ refused_text) ++ last_word number

-- the word was written into a buffer from place `at` on, and ends before place `end`: up to there the buffer has what it had
-- before `at`, and then the word. So what stood before `at` stays (`wrote_kept`); of what stands from `end` on nothing is said
abbrev pub Wrote : List ℕ → ℕ → List ℕ → List ℕ → ℕ → Type 0
Wrote before at word after end = (end ≡ at + length word) × (take end after ≡ take at before ++ word)

-- behind what stands written there is room for n bytes more
abbrev pub Fits : Lines → ℕ → Type 0
Fits lines n = lines.at + n ≤ length lines.out.now

-- the word was written behind what stood written, in the same lent buffer, which is as long as it was
pub record Adds (before : Lines) (word : List ℕ) (after : Lines) : Type 0 where
  pub same_buffer : after.out.ghost_name ≡ before.out.ghost_name
  pub same_length : length after.out.now ≡ length before.out.now
  pub wrote : Wrote before.out.now before.at word after.out.now after.at
