-- The definitions on small inputs, by computation: big-endian numbers, bytes that tell their own places, and the table of
-- document 01, One session, whole, also with bytes missing at its end. Assumes nothing.
use Prim.Native.Nat.{ℕ}
use mathlib.Core.Path.{◌≡◌, refl}
use mathlib.Core.List.{List, [], ◌∷◌, ◌++◌}
use lib.ListN.{take}
use Rattle.table.specs.Numbers.{be16_of, be32_of}
use Rattle.table.specs.Table.{no_head, no_line, head_of, line_at}

pub be16_greatest_place_first : be16_of 1 2 ≡ 258
be16_greatest_place_first = refl

pub be16_greatest : be16_of 255 255 ≡ 65535
be16_greatest = refl

pub be32_greatest_place_first : be32_of 1 2 3 4 ≡ 16909060
be32_greatest_place_first = refl

-- the greatest age that has a bound
pub be32_longest_age : be32_of 1 226 133 0 ≡ 31622400
be32_longest_age = refl

-- the number that means no upper bound
pub be32_greatest : be32_of 255 255 255 255 ≡ 4294967295
be32_greatest = refl

-- 24 bytes, of which byte i is i: a head and a line, each place from bytes of its own
abbrev pub counted : List ℕ
counted =
    0 ∷ 1 ∷ 2 ∷ 3 ∷ 4 ∷ 5 ∷ 6 ∷ 7 ∷ 8 ∷ 9 ∷ 10 ∷ 11 ∷ 12 ∷ 13 ∷ 14 ∷ 15 ∷ 16 ∷ 17 ∷ 18 ∷ 19 ∷ 20 ∷ 21 ∷ 22 ∷ 23 ∷ []

pub head-by_places : head_of counted ≡ record { version = 0; length = 258; states = 3; letters = 4; initial = 1286; standing = 1800; accepting = 2314; lines = 11 }
unfolding head_of
head-by_places = refl

pub line_by_places : line_at counted 0 ≡ record { from = 12; letter = 13; to = 14; flags = 15; least = 269554195; greatest = 336926231 }
unfolding line_at
line_by_places = refl

-- the session's table, 36 bytes: its head, line 0 and line 1
abbrev pub board-table : List ℕ
board-table =
    (1 ∷ 0 ∷ 36 ∷ 2 ∷ 2 ∷ 0 ∷ 1 ∷ 0 ∷ 1 ∷ 0 ∷ 2 ∷ 2 ∷ [])
    ++ (0 ∷ 0 ∷ 1 ∷ 1 ∷ 0 ∷ 0 ∷ 0 ∷ 0 ∷ 255 ∷ 255 ∷ 255 ∷ 255 ∷ [])
    ++ (1 ∷ 1 ∷ 1 ∷ 0 ∷ 0 ∷ 0 ∷ 0 ∷ 0 ∷ 0 ∷ 0 ∷ 0 ∷ 5 ∷ [])

-- state 0 is initial and standing, state 1 accepting
pub head_of-board_table : head_of board-table ≡ record { version = 1; length = 36; states = 2; letters = 2; initial = 1; standing = 1; accepting = 2; lines = 2 }
unfolding head_of
head_of-board_table = refl

-- refreshed, from 0 to 1, reset, any age
pub line_0_any_age : line_at board-table 0 ≡ record { from = 0; letter = 0; to = 1; flags = 1; least = 0; greatest = 4294967295 }
unfolding line_at
line_0_any_age = refl

-- look, from 1 to 1, ages 0 to 5
pub line_1_to_age_5 : line_at board-table 1 ≡ record { from = 1; letter = 1; to = 1; flags = 0; least = 0; greatest = 5 }
unfolding line_at
line_1_to_age_5 = refl

pub line_2_missing : line_at board-table 2 ≡ no_line
unfolding line_at
line_2_missing = refl

pub line_1_one_byte_short : line_at (take 35 board-table) 1 ≡ no_line
unfolding line_at
line_1_one_byte_short = refl

-- what is missing at the end takes no other line away
pub line_0_in_35_bytes : line_at (take 35 board-table) 0 ≡ line_at board-table 0
unfolding line_at
line_0_in_35_bytes = refl

-- a table without lines has a head
pub head_of-12_bytes : head_of (take 12 board-table) ≡ head_of board-table
unfolding head_of
head_of-12_bytes = refl

pub head_of-11_bytes_missing : head_of (take 11 board-table) ≡ no_head
unfolding head_of
head_of-11_bytes_missing = refl

pub head_of-nothing_missing : head_of [] ≡ no_head
unfolding head_of
head_of-nothing_missing = refl
