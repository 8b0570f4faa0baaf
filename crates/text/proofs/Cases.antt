-- The definitions on small inputs, by computation: numbers about each power of 10, and four lines. Assumes nothing.
use mathlib.Core.Path.{◌≡◌, refl}
use mathlib.Core.List.{[], ◌∷◌, map}
use mathlib.Core.Bool.{true, false}
use lib.ListN.{length}
use Rattle.record.specs.Verdicts.{says_yes, says_no, unsure}
use Rattle.text.specs.Text.{ascii, decimal, line_text, refusal_text, Wrote}

-- the bytes of a text: `0` is 48, a space 32, `n` 110, `o` 111, a newline 10
pub ascii-bytes : ascii "0 no\n" ≡ 48 ∷ 32 ∷ 110 ∷ 111 ∷ 10 ∷ []
ascii-bytes = refl

pub decimal-one_digit : map decimal (0 ∷ 9 ∷ []) ≡ map ascii ("0" ∷ "9" ∷ [])
unfolding decimal
decimal-one_digit = refl

pub decimal-two_digits : map decimal (10 ∷ 99 ∷ []) ≡ map ascii ("10" ∷ "99" ∷ [])
unfolding decimal
decimal-two_digits = refl

pub decimal-three_digits : map decimal (100 ∷ 999 ∷ []) ≡ map ascii ("100" ∷ "999" ∷ [])
unfolding decimal
decimal-three_digits = refl

pub decimal-four_digits : map decimal (1000 ∷ 9999 ∷ []) ≡ map ascii ("1000" ∷ "9999" ∷ [])
unfolding decimal
decimal-four_digits = refl

-- the least of five digits, the greatest ordinal, and the greatest number of 16 bits
pub decimal-five_digits : map decimal (10000 ∷ 16383 ∷ 65535 ∷ []) ≡ map ascii ("10000" ∷ "16383" ∷ "65535" ∷ [])
unfolding decimal
decimal-five_digits = refl

-- from 100,000 on a digit is missing
pub decimal-past : map decimal (99999 ∷ 100000 ∷ []) ≡ map ascii ("99999" ∷ "00000" ∷ [])
unfolding decimal
decimal-past = refl

pub line_no : line_text 0 says_no true 1 ≡ ascii "0 no settled 1\n"
unfolding line_text decimal
line_no = refl

pub line_unsure : line_text 6 unsure false 1 ≡ ascii "6 unsure open 1\n"
unfolding line_text decimal
line_unsure = refl

pub line_yes : line_text 9 says_yes true 1 ≡ ascii "9 yes settled 1\n"
unfolding line_text decimal
line_yes = refl

pub line_refused : refusal_text 10 10 ≡ ascii "10 refused 10\n"
unfolding refusal_text decimal
line_refused = refl

-- the longest line of an ordinal of 16 bits and a count of 8
pub line_longest : length (line_text 65535 unsure true 255) ≡ 25
unfolding line_text decimal
line_longest = refl

-- a byte behind the end may be any
pub wrote-two : Wrote (1 ∷ 2 ∷ 3 ∷ 4 ∷ []) 1 (8 ∷ 9 ∷ []) (1 ∷ 8 ∷ 9 ∷ 7 ∷ []) 3
wrote-two = (refl, refl)
