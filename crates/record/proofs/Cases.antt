-- The definitions on small inputs, by computation: the stretches of some pairs, verdicts after a start and after a gap, the
-- record that holds some pairs, both sides of each clause of a proper record, and a record that is built. Assumes nothing.
use Prim.Native.Nat.{ℕ, ◌-◌}
use mathlib.Core.Path.{◌≡◌, refl}
use mathlib.Core.List.{List, [], ◌∷◌, ◌++◌, map}
use mathlib.Core.Bool.{true, false, cond}
use lib.Dec.{leb}
use lib.ListN.{length, get_or, replicate}
use Rattle.base.specs.Masks.{union, most, all}
use Rattle.table.specs.Table.{head_of, line_at}
use Rattle.meaning.specs.Tables.{table_of, horizon, accepting_at}
use Rattle.meaning.specs.Ages.{accepts_at}
use Rattle.meaning.proofs.Cases.{board}
use Rattle.record.specs.declared.Pair.{Pair}
use Rattle.record.specs.declared.Stretch.{Stretch}
use Rattle.record.specs.declared.Record.{Record}
use Rattle.record.specs.Pairs.{Pairs, no_pair, start_pairs, gap_pairs}
use Rattle.record.specs.Verdicts.{says_no, unsure, verdict_at, settled_at}
use Rattle.record.specs.Stretches.{first_age_at, first_ages, stretch, touches, push, newest, stretches_of}
use Rattle.record.specs.Building.{empty_record, overfull, appended, joined, pushed}
use Rattle.record.specs.Records.{blank, blank_record, inside, pair_in, pairs_at, record_of, pair_okb, stretch_okb, followsb, blankb, place_okb, properb}

-- ---- stretches

-- states 0 and 1 possible, and sure: none, state 0
abbrev pub maybe : Pair
maybe = record { sure = 0; possible = 3 }

abbrev pub half : Pair
half = record { sure = 1; possible = 3 }

-- ages 0 to 6 in turn
abbrev pub seven : Pairs
seven k = get_or (half ∷ half ∷ maybe ∷ no_pair ∷ maybe ∷ maybe ∷ half ∷ []) k no_pair

-- at age 2 the sure set alone changes; at age 3 nothing is possible; age 6 is above H
pub three_stretches : stretches_of 5 seven ≡ stretch 0 1 half ∷ stretch 2 2 maybe ∷ stretch 4 5 maybe ∷ []
unfolding touches push newest
three_stretches = refl

pub three_first_ages : first_ages 6 seven ≡ 3
unfolding first_ages first_age_at
three_first_ages = refl

-- an age more begins a stretch, an age less ends one sooner
pub to_age_6_and_4 : (stretches_of 6 seven ≡ stretch 0 1 half ∷ stretch 2 2 maybe ∷ stretch 4 5 maybe ∷ stretch 6 6 half ∷ [])
    × (stretches_of 4 seven ≡ stretch 0 1 half ∷ stretch 2 2 maybe ∷ stretch 4 4 maybe ∷ [])
unfolding touches push newest
to_age_6_and_4 = (refl, refl)

-- no age has anything possible
pub no_stretches : stretches_of 5 (λ k. no_pair) ≡ []
unfolding touches push newest
no_stretches = refl

-- ---- verdicts, on the table of document 01, One session, whole

-- after a gap it is unsure and open; a restart would say no, and be settled
pub gap-is-no-restart :
    ((verdict_at board (gap_pairs board) ≡ unsure) × (settled_at board (gap_pairs board) ≡ false))
    × ((verdict_at board (start_pairs board) ≡ says_no) × (settled_at board (start_pairs board) ≡ true))
unfolding verdict_at settled_at gap_pairs start_pairs accepts_at union all board table_of horizon most accepting_at head_of line_at
gap-is-no-restart = ((refl, refl), (refl, refl))

-- H is 5: what lies above it alone leaves it open
pub open_above : settled_at board (λ k. cond (leb k 5) no_pair maybe) ≡ false
unfolding settled_at all board table_of horizon most head_of line_at
open_above = refl

-- ---- the record that holds given pairs

-- the record with these stretches in its first places, and zeros behind
abbrev pub made : ℕ → ℕ → List Stretch → Pair → Record
made room count l above = record { room = room; count = count; places = l ++ replicate (64 - length l) blank; above = above }

pub record_of-seven : record_of 4 5 seven ≡ made 4 3 (stretch 0 1 half ∷ stretch 2 2 maybe ∷ stretch 4 5 maybe ∷ []) half
unfolding record_of touches push newest
record_of-seven = refl

-- and it says the same of every age; all ages above H have the one pair
pub said-of_seven : map (pairs_at 5 (record_of 4 5 seven)) (0 ∷ 1 ∷ 2 ∷ 3 ∷ 4 ∷ 5 ∷ 6 ∷ 7 ∷ 100 ∷ [])
    ≡ half ∷ half ∷ maybe ∷ no_pair ∷ maybe ∷ maybe ∷ half ∷ half ∷ half ∷ []
unfolding pairs_at pair_in inside record_of touches push newest
said-of_seven = refl

-- a count above 64, which is not proper, means all 64 places
pub said-past_64 : map (pairs_at 5 (made 4 200 (stretch 1 2 half ∷ []) maybe)) (1 ∷ 2 ∷ 3 ∷ 6 ∷ [])
    ≡ half ∷ half ∷ no_pair ∷ maybe ∷ []
unfolding pairs_at pair_in inside
said-past_64 = refl

-- ---- proper records, for H = 5 and 2 states

-- two stretches, and a pair above H, in a room
abbrev pub two : ℕ → Stretch → Stretch → Pair → Record
two room x y above = made room 2 (x ∷ y ∷ []) above

pub rooms : map (λ r. properb 5 2 r) (two 2 (stretch 0 1 half) (stretch 4 5 half) maybe
    ∷ two 1 (stretch 0 1 half) (stretch 4 5 half) maybe
    ∷ two 64 (stretch 0 1 half) (stretch 4 5 half) maybe
    ∷ two 65 (stretch 0 1 half) (stretch 4 5 half) maybe
    ∷ made 1 0 [] no_pair ∷ made 0 0 [] no_pair ∷ blank_record ∷ [])
    ≡ true ∷ false ∷ true ∷ false ∷ true ∷ false ∷ false ∷ []
unfolding properb place_okb blankb followsb stretch_okb pair_okb all
rooms = refl

-- a last age of 5 and of 6; first 1 and last 1, first 2 and last 1
pub within_the_horizon : map (λ r. properb 5 2 r) (made 1 1 (stretch 5 5 half ∷ []) no_pair
    ∷ made 1 1 (stretch 5 6 half ∷ []) no_pair
    ∷ made 1 1 (stretch 1 1 half ∷ []) no_pair
    ∷ made 1 1 (stretch 2 1 half ∷ []) no_pair ∷ [])
    ≡ true ∷ false ∷ true ∷ false ∷ []
unfolding properb place_okb blankb followsb stretch_okb pair_okb all
within_the_horizon = refl

-- apart with the same pair; touching with another, and with the same; sharing an age; in falling order
pub neighbours : map (λ r. properb 5 2 r) (two 2 (stretch 0 1 half) (stretch 3 5 half) maybe
    ∷ two 2 (stretch 0 1 half) (stretch 2 5 maybe) maybe
    ∷ two 2 (stretch 0 1 half) (stretch 2 5 half) maybe
    ∷ two 2 (stretch 0 2 half) (stretch 2 5 maybe) maybe
    ∷ two 2 (stretch 2 5 half) (stretch 0 1 maybe) maybe ∷ [])
    ≡ true ∷ true ∷ false ∷ false ∷ false ∷ []
unfolding properb place_okb blankb followsb stretch_okb pair_okb all
neighbours = refl

-- of a stretch: nothing possible; sure and not possible; state 2 possible, of 2 states. Then the same two faults above H, and
-- there nothing possible, which is allowed
pub pairs-of_a_record : map (λ r. properb 5 2 r) (made 1 1 (stretch 0 0 no_pair ∷ []) no_pair
    ∷ made 1 1 (stretch 0 0 (record { sure = 1; possible = 2 }) ∷ []) no_pair
    ∷ made 1 1 (stretch 0 0 (record { sure = 0; possible = 4 }) ∷ []) no_pair
    ∷ made 1 0 [] (record { sure = 1; possible = 2 })
    ∷ made 1 0 [] (record { sure = 0; possible = 4 })
    ∷ made 1 0 [] no_pair ∷ [])
    ≡ false ∷ false ∷ false ∷ false ∷ false ∷ true ∷ []
unfolding properb place_okb blankb followsb stretch_okb pair_okb all
pairs-of_a_record = refl

-- a place beyond the count that is not zero: the first of them, and the last
pub unused_places : map (λ r. properb 5 2 r) (made 2 1 (stretch 0 0 half ∷ stretch 2 2 half ∷ []) no_pair
    ∷ made 1 0 (replicate 63 blank ++ (stretch 0 1 no_pair ∷ [])) no_pair
    ∷ made 1 0 (replicate 63 blank ++ (stretch 0 0 no_pair ∷ [])) no_pair ∷ [])
    ≡ false ∷ false ∷ true ∷ []
unfolding properb place_okb blankb followsb stretch_okb pair_okb all
unused_places = refl

-- ---- a record that is built

-- the ages 0 to 5 of `seven`, some at once
abbrev pub built : ℕ → Record
built room =
    let begun = pushed (pushed (empty_record room half) 0 1 half) 2 2 maybe in
    pushed (pushed (pushed begun 3 3 no_pair) 4 4 maybe) 5 5 maybe

-- what goes on joins; the room may be full; one of 2 does not take 3 stretches, and nothing more is kept
pub built_of-seven : ((built 4 ≡ record_of 4 5 seven) × (built 3 ≡ record_of 3 5 seven))
    × ((built 2 ≡ overfull 2 half) × (pushed (built 2) 6 6 half ≡ overfull 2 half))
unfolding pushed appended joined record_of touches push newest
built_of-seven = ((refl, refl), (refl, refl))
