-- The record: what it says of each age, when it is proper, and which record holds given pairs (document 01, The record).
-- Assumes nothing: these are definitions.
use Rattle.std.specs.Prelude.{ℕ, zero, suc, ◌-◌, ◌^◌, ◌≤◌, ◌<◌, min, ◌≡◌, ◌≢◌, List, ◌++◌, Bool, ◌&&◌, ◌||◌, cond, not, eqb, leb, ltb, length, get_or, replicate}
use Rattle.std.specs.Int.Bits.{bit_or}
use Rattle.base.specs.Masks.{Part, past_states, all}
use Rattle.record.specs.declared.Pair.{Pair}
use Rattle.record.specs.declared.Stretch.{Stretch}
use Rattle.record.specs.declared.Record.{Record}
use Rattle.record.specs.Pairs.{Pairs, no_pair, together}
use Rattle.record.specs.Stretches.{same_pair, stretches_of}

-- the place of all zeros
abbrev pub blank : Stretch
blank = record { first = 0; last = 0; pair = no_pair }

-- "a record of all zeros"
abbrev pub blank_record : Record
blank_record = record { room = 0; count = 0; places = replicate 64 blank; above = no_pair }

-- place i, the first being place 0
abbrev pub place : Record → ℕ → Stretch
place r i = get_or r.places i blank

-- ---- what a record says of each age

-- the age k is in the stretch, both ends in
unfoldable pub inside : Stretch → ℕ → Bool
inside x k = leb x.first k && leb k x.last

-- the pair of the age k in the first n places; two empty sets where none of them has it in it. In a proper record at most one
-- place has it
unfoldable pub pair_in : List Stretch → ℕ → ℕ → Pair
pair_in l zero k = no_pair
pair_in l (suc n) k = cond (inside (get_or l n blank) k) (get_or l n blank).pair (pair_in l n k)

-- "For each age 0 to H there is a pair, sure and possible", and "one pair for all ages above H". Of the 64 places the first
-- `count` say so; a count above 64, which no proper record has, means all of them
unfoldable pub pairs_at : ℕ → Record → Pairs
pairs_at H r k = cond (leb k H) (pair_in r.places (min r.count 64) k) r.above

-- what f says of the ages of the stretch x, as one
unfoldable pub over_ages : Stretch → Pairs → Pair
over_ages x f = together (suc x.last) (λ k. cond (leb x.first k) (f k) no_pair)

-- ---- which record holds the pairs f: "its room .., the count of stretches, each stretch's first and last age and its pair, and
-- one pair for all ages above H. Its 64 places are held with it; those beyond the count are all zero."
unfoldable pub record_of : ℕ → ℕ → Pairs → Record
record_of room H f =
    record {
      room = room;
      count = length (stretches_of H f);
      places = stretches_of H f ++ replicate (64 - length (stretches_of H f)) blank;
      above = f (suc H);
    }

-- ---- a proper record, clause by clause; H is the horizon and n the number of states. That there are 64 places is the array's
-- type, so no clause asks it

-- "in every pair .. the sure set is part of the possible set and no state is n or above"
pub record PairOk (n : ℕ) (p : Pair) : Type 0 where
  pub part : Part p.sure p.possible
  pub small : p.possible < 2 ^ n

-- "each within 0 to H with its first age at most its last, possible set non-empty"
pub record StretchOk (H n : ℕ) (x : Stretch) : Type 0 where
  pub pair : PairOk n x.pair
  pub within : x.last ≤ H
  pub order : x.first ≤ x.last
  pub some : x.pair.possible ≢ 0

-- "room 1 to 64; count at most room; stretches in rising order, disjoint, ..; touching neighbours differ in their pair; ..
-- the one above H too ..; unused places zero"
pub record Proper (H n : ℕ) (r : Record) : Type 0 where
  pub room_low : 1 ≤ r.room
  pub room_high : r.room ≤ 64
  pub fits : r.count ≤ r.room
  pub each : (i : ℕ) → i < r.count → StretchOk H n (place r i)
  pub rising : (i : ℕ) → suc i < r.count → (place r i).last < (place r (suc i)).first
  pub differ : (i : ℕ) → suc i < r.count → suc (place r i).last ≡ (place r (suc i)).first
      → (place r i).pair ≢ (place r (suc i)).pair
  pub above : PairOk n r.above
  pub unused : (i : ℕ) → r.count ≤ i → i < 64 → place r i ≡ blank

-- ---- the same as a test

-- `PairOk`: the sure set adds nothing to the possible one, which has no bit for state n or above
unfoldable pub pair_okb : ℕ → Pair → Bool
pair_okb n p = eqb (bit_or p.sure p.possible) p.possible && not (past_states n p.possible)

-- `StretchOk`
unfoldable pub stretch_okb : ℕ → ℕ → Stretch → Bool
stretch_okb H n x = leb x.last H && leb x.first x.last && not (eqb x.pair.possible 0) && pair_okb n x.pair

-- `rising` and `differ`: y may follow x, as it lies above x and differs in its pair where it touches x
unfoldable pub followsb : Stretch → Stretch → Bool
followsb x y = ltb x.last y.first && not (eqb (suc x.last) y.first && same_pair x.pair y.pair)

-- `unused`
unfoldable pub blankb : Stretch → Bool
blankb x = eqb x.first 0 && eqb x.last 0 && same_pair x.pair no_pair

-- `here` may be in place i, behind `before`, where so many places are in use: in use it is a proper stretch and may follow the
-- one before it, if there is one; otherwise it is zero
abbrev pub in_place_okb : ℕ → ℕ → ℕ → ℕ → Stretch → Stretch → Bool
in_place_okb H n count i before here =
    cond (ltb i count) (stretch_okb H n here && (eqb i 0 || followsb before here)) (blankb here)

-- the same of place i of a record
unfoldable pub place_okb : ℕ → ℕ → Record → ℕ → Bool
place_okb H n r i = in_place_okb H n r.count i (place r (i - 1)) (place r i)

-- `Proper`
unfoldable pub properb : ℕ → ℕ → Record → Bool
properb H n r =
    leb 1 r.room && leb r.room 64
    && leb r.count r.room
    && all 64 (place_okb H n r)
    && pair_okb n r.above
