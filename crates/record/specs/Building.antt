-- How a record is built, in rising order of ages: what becomes of its places. What that means for the stretches is a law
-- (`push-held`): a record that holds them holds, after a push, the stretches with those ages more; one that would need more of
-- them than its room says so by its count. Assumes nothing: these are definitions.
use Rattle.std.specs.Prelude.{ℕ, suc, ◌+◌, ◌-◌, List, ◌++◌, reverse, ◌||◌, cond, eqb, leb, ltb, length, replicate, set}
use Rattle.record.specs.declared.Pair.{Pair}
use Rattle.record.specs.declared.Stretch.{Stretch}
use Rattle.record.specs.declared.Record.{Record}
use Rattle.record.specs.Pairs.{Pairs}
use Rattle.record.specs.Stretches.{stretch, touches, newest}
use Rattle.record.specs.Records.{blank, place}

-- a record without stretches
abbrev pub empty_record : ℕ → Pair → Record
empty_record room above = record { room = room; count = 0; places = replicate 64 blank; above = above }

-- what stands for more stretches than the room takes: a count that no room has, and none of them kept
abbrev pub overfull : ℕ → Pair → Record
overfull room above = record { room = room; count = 65; places = replicate 64 blank; above = above }

-- the record of that room and pair above H that holds the stretches L, the newest first, where they fit the room
unfoldable pub held_in : ℕ → Pair → List Stretch → Record
held_in room above L =
    cond (leb (length L) room)
    (record { room = room; count = length L; places = reverse L ++ replicate (64 - length L) blank; above = above })
    (overfull room above)

-- all ages 0 to H of the pairs f, pushed: the record of that room that holds them, or one that says by its count that the room
-- does not take them (`built-fits`, `built-over`)
abbrev pub built_of : ℕ → ℕ → Pairs → Record
built_of room H f = held_in room (f (suc H)) (newest (suc H) f)

-- a stretch more, in the place behind the last, within the room and the 64 places
unfoldable pub appended : Record → Stretch → Record
appended r x =
    cond (leb r.room r.count || leb 64 r.count)
    (overfull r.room r.above)
    (record { room = r.room; count = r.count + 1; places = set r.places r.count x; above = r.above })

-- the place of the last stretch
abbrev pub last_place : Record → Stretch
last_place r = place r (r.count - 1)

-- the last stretch goes on to the age b
unfoldable pub joined : Record → ℕ → Record
joined r b =
    record {
      room = r.room;
      count = r.count;
      places = set r.places (r.count - 1) (stretch (last_place r).first b (last_place r).pair);
      above = r.above;
    }

-- the ages a to b, all with the pair p, behind the stretches of the ages below a: the last one goes on, or one begins; none
-- where nothing is possible; and what was too much stays so
unfoldable pub pushed : Record → ℕ → ℕ → Pair → Record
pushed r a b p =
    cond (eqb p.possible 0 || ltb 64 r.count)
    r
    (cond (eqb r.count 0)
    (appended r (stretch a b p))
    (cond (touches (last_place r) a p) (joined r b) (appended r (stretch a b p))))
