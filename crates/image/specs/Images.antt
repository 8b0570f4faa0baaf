-- Where a letter leads from the pair of an age, line by line, and how far from an age on the same lines of the letter hold.
-- Assumes nothing: these are definitions.
use Rattle.std.specs.Prelude.{ℕ, zero, suc, ◌-◌, ◌^◌, min, Bool, ◌&&◌, cond, eqb, leb, ltb}
use Rattle.std.specs.Bool.{beq}
use Rattle.base.specs.Masks.{hasb, pick}
use Rattle.table.specs.declared.Line.{Line}
use Rattle.meaning.specs.Tables.{Table, resets}
use Rattle.meaning.specs.Ages.{meetsb, takes, image}
use Rattle.record.specs.declared.Pair.{Pair}
use Rattle.record.specs.Pairs.{both}
use Rattle.image.specs.declared.Piece.{Piece}

-- where the letter a leads from the pair p at age t, by the lines that reset the clock (r is true) or keep it (r is false):
-- "Letters and spans step both", each set by itself
abbrev pub image_pair : Table → Bool → ℕ → ℕ → Pair → Pair
image_pair T r a t p = record { sure = image T r a t p.sure; possible = image T r a t p.possible }

-- the line is of that kind, bears the letter a, and holds at age t
abbrev pub is_open : Line → Bool → ℕ → ℕ → Bool
is_open l r a t = beq (resets l) r && eqb l.letter a && meetsb l t

-- where the line leads from the states m, whatever it asks
abbrev pub led_by : Line → ℕ → ℕ
led_by l m = pick (hasb m l.from) (2 ^ l.to)

-- the same of both sets
abbrev pub led_pair : Line → Pair → Pair
led_pair l p = record { sure = led_by l p.sure; possible = led_by l p.possible }

-- what the line adds to `image_pair`
abbrev pub line_pair : Line → Bool → ℕ → ℕ → Pair → Pair
line_pair l r a t p =
    record {
      sure = pick (takes l r a t p.sure) (2 ^ l.to);
      possible = pick (takes l r a t p.possible) (2 ^ l.to);
    }

-- the smallest of c and f 0 to f (n - 1)
unfoldable pub least : ℕ → ℕ → (ℕ → ℕ) → ℕ
least c zero f = c
least c (suc n) f = min (least c n f) (f n)

-- the last age, from x on, at which the line l holds, or does not hold, as it does at x; `last` where that has no end, where
-- the line is of the other kind, or where it bears another letter than a
unfoldable pub line_until : Line → Bool → ℕ → ℕ → ℕ → ℕ
line_until l r a x last =
    cond (beq (resets l) r && eqb l.letter a)
    (cond (ltb x l.least) (l.least - 1) (cond (leb x l.greatest) l.greatest last))
    last

-- the last age, from x on and at most `last`, up to which the same lines of that kind and of the letter a hold: these ages are
-- a piece
unfoldable pub until_of : Table → Bool → ℕ → ℕ → ℕ → ℕ
until_of T r a x last = least last T.lines (λ i. line_until (T.line i) r a x last)

-- a piece that ends with that age, and where the letter leads from it
abbrev pub up_to : ℕ → Pair → Piece
up_to end led = record { end = end; led = led }

-- the piece from age x on, with where the letter leads from p at age x, and so at all its ages (`image-piece`)
abbrev pub piece_of : Table → Bool → ℕ → ℕ → ℕ → Pair → Piece
piece_of T r a x last p = up_to (until_of T r a x last) (image_pair T r a x p)

-- the same line by line: what a piece so far becomes with the line l
unfoldable pub piece_with : Piece → Line → Bool → ℕ → ℕ → Pair → Piece
piece_with q l r a x p =
    cond (beq (resets l) r && eqb l.letter a)
    (cond (ltb x l.least) (up_to (min q.end (l.least - 1)) q.led)
    (cond (leb x l.greatest) (up_to (min q.end l.greatest) (both q.led (led_pair l p))) q))
    q
