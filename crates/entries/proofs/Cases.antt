-- The definitions on small inputs, by computation: an entry of each kind, whole, cut short, and with a byte that is not its
-- kind's. Assumes nothing.
use mathlib.Core.Path.{◌≡◌, refl}
use mathlib.Core.List.{[], ◌∷◌, map}
use Rattle.std.specs.Prelude.{None}
use Rattle.entries.specs.Entries.{is_entry, got, read_at}
use Rattle.entries.specs.declared.Symbol.TheVariants.{Letter, Span, Gap}

pub letter_read : read_at (2 ∷ 1 ∷ 7 ∷ []) 0 1 ≡ got 1 (Letter 7) 3
unfolding read_at is_entry
letter_read = refl

-- the first byte of the four counts most
pub span_read : read_at (5 ∷ 2 ∷ 1 ∷ 2 ∷ 3 ∷ 4 ∷ []) 0 2 ≡ got 2 (Span 16909060) 6
unfolding read_at is_entry
span_read = refl

pub gap_read : read_at (1 ∷ 3 ∷ []) 0 3 ≡ got 3 Gap 2
unfolding read_at is_entry
gap_read = refl

-- a gap and a letter, read at the letter's place and with a byte behind it
pub read_further_on : read_at (1 ∷ 3 ∷ 2 ∷ 1 ∷ 7 ∷ 9 ∷ []) 2 16383 ≡ got 16383 (Letter 7) 5
unfolding read_at is_entry
read_further_on = refl

-- greatest bytes: nothing is judged
pub read_unjudged : map (λ s. read_at s 0 1) ((2 ∷ 1 ∷ 255 ∷ []) ∷ (5 ∷ 2 ∷ 255 ∷ 255 ∷ 255 ∷ 255 ∷ []) ∷ [])
    ≡ got 1 (Letter 255) 3 ∷ got 1 (Span 4294967295) 6 ∷ []
unfolding read_at is_entry
read_unjudged = refl

-- the last byte of each is missing
pub cut_short : map (λ s. read_at s 0 1) ((2 ∷ 1 ∷ []) ∷ (5 ∷ 2 ∷ 1 ∷ 2 ∷ 3 ∷ []) ∷ (1 ∷ []) ∷ [])
    ≡ None ∷ None ∷ None ∷ []
unfolding read_at is_entry
cut_short = refl

-- a letter of length 1 and 3, a span of 4 and 6, a gap of 0 and 2, with bytes enough for each
pub wrong_length : map (λ s. read_at s 0 1)
    ((1 ∷ 1 ∷ 7 ∷ [])
    ∷ (3 ∷ 1 ∷ 7 ∷ 0 ∷ [])
    ∷ (4 ∷ 2 ∷ 1 ∷ 2 ∷ 3 ∷ 4 ∷ [])
    ∷ (6 ∷ 2 ∷ 1 ∷ 2 ∷ 3 ∷ 4 ∷ 0 ∷ [])
    ∷ (0 ∷ 3 ∷ [])
    ∷ (2 ∷ 3 ∷ 0 ∷ [])
    ∷ [])
    ≡ None ∷ None ∷ None ∷ None ∷ None ∷ None ∷ []
unfolding read_at is_entry
wrong_length = refl

-- kinds 0 and 4, at lengths of the known kinds
pub unknown_kind : map (λ s. read_at s 0 1)
    ((2 ∷ 0 ∷ 7 ∷ []) ∷ (5 ∷ 4 ∷ 1 ∷ 2 ∷ 3 ∷ 4 ∷ []) ∷ (1 ∷ 0 ∷ []) ∷ (1 ∷ 4 ∷ []) ∷ [])
    ≡ None ∷ None ∷ None ∷ None ∷ []
unfolding read_at is_entry
unknown_kind = refl

-- length 0, with kinds 1 and 2, and with nothing behind it
pub length_zero : map (λ s. read_at s 0 1) ((0 ∷ 1 ∷ 7 ∷ []) ∷ (0 ∷ 2 ∷ 1 ∷ 2 ∷ 3 ∷ 4 ∷ []) ∷ (0 ∷ []) ∷ [])
    ≡ None ∷ None ∷ None ∷ []
unfolding read_at is_entry
length_zero = refl

-- of two bytes, from the first, from the last, from the end and past it
pub past_the_end : map (λ at. read_at (1 ∷ 3 ∷ []) at 1) (0 ∷ 1 ∷ 2 ∷ 3 ∷ [])
    ≡ got 1 Gap 2 ∷ None ∷ None ∷ None ∷ []
unfolding read_at is_entry
past_the_end = refl
