-- The number that a table earns, by computation: both sides of each edge (document 01, Both sides of each edge), and tables with
-- two faults, of which the first decides. Many are the session's table, of 2 states, 2 letters and 2 lines, with a byte or two
-- set by their places. Assumes nothing.
use Prim.Native.Nat.{ℕ, ◌+◌, ◌*◌, ◌/◌, ◌%◌}
use mathlib.Core.Path.{◌≡◌, refl}
use mathlib.Core.List.{List, [], ◌∷◌, ◌++◌, map}
use lib.ListN.{take, drop, set, replicate}
use Rattle.base.specs.Checks.{first_of}
use Rattle.table.specs.Table.{head_of, line_at}
use Rattle.table.proofs.Cases.{board-table}
use Rattle.faults.specs.Faults.{bad_counts, bad_length, bad_masks, bad_parts, bad_ages, line_fault, table_fault}

-- ---- tables to be checked

-- the 2 bytes of a number, and the 4
abbrev pub two_bytes : ℕ → List ℕ
two_bytes a = a / 256 ∷ a % 256 ∷ []

abbrev pub four_bytes : ℕ → List ℕ
four_bytes a = two_bytes (a / 65536) ++ two_bytes (a % 65536)

-- the head of a table of n states, m letters and e lines, with its three masks; the length fits
abbrev pub head : ℕ → ℕ → ℕ → ℕ → ℕ → ℕ → List ℕ
head n m initial standing accepting e =
    (1 ∷ []) ++ two_bytes (12 + 12 * e) ++ (n ∷ m ∷ [])
    ++ two_bytes initial ++ two_bytes standing ++ two_bytes accepting ++ (e ∷ [])

-- n states, m letters, empty masks and e lines of 12 zeros: each from state 0 to state 0 on letter 0, kept, at age 0
abbrev pub plain : ℕ → ℕ → ℕ → List ℕ
plain n m e = head n m 0 0 0 e ++ replicate (12 * e) 0

-- n states, one letter, the three masks and no line
abbrev pub masked : ℕ → ℕ → ℕ → ℕ → List ℕ
masked n initial standing accepting = head n 1 initial standing accepting 0

-- 16 states, 32 letters and one line with these parts
abbrev pub parted : ℕ → ℕ → ℕ → ℕ → List ℕ
parted from letter to flags = head 16 32 0 0 0 1 ++ (from ∷ letter ∷ to ∷ flags ∷ []) ++ replicate 8 0

-- the session's table, its line 0 at the ages from `least` to `greatest`
abbrev pub aged : ℕ → ℕ → List ℕ
aged least greatest = take 16 board-table ++ four_bytes least ++ four_bytes greatest ++ drop 24 board-table

-- ---- edges, check by check

-- 1: no byte; 11 bytes; 11 bytes of version 2. Then 12 bytes, which are a table without lines, and the session's table
pub short-edges : map table_fault ([] ∷ take 11 board-table ∷ set (take 11 board-table) 0 2 ∷ plain 2 2 0 ∷ board-table ∷ [])
    ≡ 1 ∷ 1 ∷ 1 ∷ 0 ∷ 0 ∷ []
unfolding table_fault bad_counts bad_length bad_masks bad_parts bad_ages line_fault first_of head_of line_at
short-edges = refl

-- 2: versions 0, 1 and 2
pub version_edges : map table_fault (set board-table 0 0 ∷ set board-table 0 1 ∷ set board-table 0 2 ∷ [])
    ≡ 2 ∷ 0 ∷ 2 ∷ []
unfolding table_fault bad_counts bad_length bad_masks bad_parts bad_ages line_fault first_of head_of line_at
version_edges = refl

-- 3: no state, then 1, 16 and 17
pub states_edges : map table_fault (plain 0 1 0 ∷ plain 1 1 1 ∷ plain 16 1 1 ∷ plain 17 1 1 ∷ []) ≡ 3 ∷ 0 ∷ 0 ∷ 3 ∷ []
unfolding table_fault bad_counts bad_length bad_masks bad_parts bad_ages line_fault first_of head_of line_at
states_edges = refl

-- 3: no letter, then 1, 32 and 33
pub letters_edges : map table_fault (plain 1 0 0 ∷ plain 1 1 1 ∷ plain 1 32 1 ∷ plain 1 33 1 ∷ []) ≡ 3 ∷ 0 ∷ 0 ∷ 3 ∷ []
unfolding table_fault bad_counts bad_length bad_masks bad_parts bad_ages line_fault first_of head_of line_at
letters_edges = refl

-- 3: no line, then 1, 64 and 65
pub lines_edges : map table_fault (plain 1 1 0 ∷ plain 1 1 1 ∷ plain 1 1 64 ∷ plain 1 1 65 ∷ []) ≡ 0 ∷ 0 ∷ 0 ∷ 3 ∷ []
unfolding table_fault bad_counts bad_length bad_masks bad_parts bad_ages line_fault first_of head_of line_at
lines_edges = refl

-- 4: 36 bytes that state 35, 36, 37 and, by the high byte, 292
pub stated_edges : map table_fault (set board-table 2 35 ∷ set board-table 2 36 ∷ set board-table 2 37 ∷ set board-table 1 1 ∷ [])
    ≡ 4 ∷ 0 ∷ 4 ∷ 4 ∷ []
unfolding table_fault bad_counts bad_length bad_masks bad_parts bad_ages line_fault first_of head_of line_at
stated_edges = refl

-- 4: 35 and 37 bytes that state 36; then 35 and 37 bytes that state as many, which is not 12 + 12e
pub whole_edges : map table_fault (take 35 board-table ∷ (board-table ++ (0 ∷ []))
    ∷ set (take 35 board-table) 2 35 ∷ set (board-table ++ (0 ∷ [])) 2 37 ∷ [])
    ≡ 4 ∷ 4 ∷ 4 ∷ 4 ∷ []
unfolding table_fault bad_counts bad_length bad_masks bad_parts bad_ages line_fault first_of head_of line_at
whole_edges = refl

-- 5: of 2 states, bit 1 and then bit 2, in each mask in turn
pub mask_edges : map table_fault (masked 2 2 0 0 ∷ masked 2 4 0 0
    ∷ masked 2 0 2 0 ∷ masked 2 0 4 0 ∷ masked 2 0 0 2 ∷ masked 2 0 0 4 ∷ [])
    ≡ 0 ∷ 5 ∷ 0 ∷ 5 ∷ 0 ∷ 5 ∷ []
unfolding table_fault bad_counts bad_length bad_masks bad_parts bad_ages line_fault first_of head_of line_at
mask_edges = refl

-- 5: of 15 states, all of them in each mask, then bit 15 in each in turn; of 16 states, all of them
pub mask_full_edges : map table_fault (masked 15 32767 32767 32767 ∷ masked 15 32768 0 0
    ∷ masked 15 0 32768 0 ∷ masked 15 0 0 32768 ∷ masked 16 65535 65535 65535 ∷ [])
    ≡ 0 ∷ 5 ∷ 5 ∷ 5 ∷ 0 ∷ []
unfolding table_fault bad_counts bad_length bad_masks bad_parts bad_ages line_fault first_of head_of line_at
mask_full_edges = refl

-- 6: each part at its greatest; then from 16, letter 32, to 16 and flags 2, one at a time
pub part-edges : map table_fault (parted 15 31 15 1
    ∷ parted 16 31 15 1 ∷ parted 15 32 15 1 ∷ parted 15 31 16 1 ∷ parted 15 31 15 2 ∷ [])
    ≡ 0 ∷ 6 ∷ 6 ∷ 6 ∷ 6 ∷ []
unfolding table_fault bad_counts bad_length bad_masks bad_parts bad_ages line_fault first_of head_of line_at
part-edges = refl

-- 7: L = 31,622,400 with U the same and with no upper bound; L one above, likewise
pub least-edges : map table_fault (aged 31622400 31622400 ∷ aged 31622400 4294967295
    ∷ aged 31622401 31622401 ∷ aged 31622401 4294967295 ∷ [])
    ≡ 0 ∷ 0 ∷ 7 ∷ 7 ∷ []
unfolding table_fault bad_counts bad_length bad_masks bad_parts bad_ages line_fault first_of head_of line_at
least-edges = refl

-- 7: U = 31,622,400 and one above; U one below the none value, and the none value
pub greatest_edges : map table_fault (aged 0 31622400 ∷ aged 0 31622401 ∷ aged 0 4294967294 ∷ aged 0 4294967295 ∷ [])
    ≡ 0 ∷ 7 ∷ 7 ∷ 0 ∷ []
unfolding table_fault bad_counts bad_length bad_masks bad_parts bad_ages line_fault first_of head_of line_at
greatest_edges = refl

-- 7: U = L and U = L - 1, for a small L and for the greatest
pub age_order_edges : map table_fault (aged 5 5 ∷ aged 5 4 ∷ aged 31622400 31622400 ∷ aged 31622400 31622399 ∷ [])
    ≡ 0 ∷ 7 ∷ 0 ∷ 7 ∷ []
unfolding table_fault bad_counts bad_length bad_masks bad_parts bad_ages line_fault first_of head_of line_at
age_order_edges = refl

-- ---- two faults: the first decides

-- version 2 and 17 states; 17 states and a wrong length; a wrong length and bit 2 in a mask; bit 2 in a mask and a line from
-- state 2; a line from state 2 with U below L
pub checks_in_order : map table_fault (set (set board-table 0 2) 3 17
    ∷ set (set board-table 3 17) 2 37 ∷ set (set board-table 2 37) 6 4
    ∷ set (set board-table 6 4) 12 2 ∷ set (aged 5 4) 12 2 ∷ [])
    ≡ 2 ∷ 3 ∷ 4 ∷ 5 ∷ 6 ∷ []
unfolding table_fault bad_counts bad_length bad_masks bad_parts bad_ages line_fault first_of head_of line_at
checks_in_order = refl

-- line 0 with U below L and line 1 from state 2; line 0 from state 2 and line 1 with U below L; line 1 alone bad, once from
-- state 2 and once with U below L; of 64 lines the last alone bad, from state 1 of 1
pub lines_in_order : map table_fault (set (aged 5 4) 24 2 ∷ set (set board-table 12 2) 31 6 ∷ set board-table 24 2
    ∷ set board-table 31 6 ∷ set (plain 1 1 64) 768 1 ∷ [])
    ≡ 7 ∷ 6 ∷ 6 ∷ 7 ∷ 6 ∷ []
unfolding table_fault bad_counts bad_length bad_masks bad_parts bad_ages line_fault first_of head_of line_at
lines_in_order = refl
