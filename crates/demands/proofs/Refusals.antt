-- Each call's number is that of the first of its checks that fails (`table-answers`, `start_answers`, `record_answers`,
-- `letter_answers`, `span_answers`): the tests of `faults` and `calls`, in their order, say what document 01's rows say, in
-- theirs. Assumes nothing.
use Prim.Native.Nat.{ℕ, zero, suc, ◌+◌, ◌*◌, ◌/◌, ◌^◌, ◌≤◌, ◌<◌}
use mathlib.Core.Path.{◌≡◌}
use mathlib.Core.Logic.Iff
use mathlib.Core.Logic.{◌↔◌, ◌≢◌, inl, inr}
use mathlib.Core.List.{List}
use mathlib.Core.Bool.{◌&&◌, not}
use native.Mathlib.Decide.{dec_lt}
use native.Mathlib.Omega.{arith}
use lib.Dec.{T as Is, eqb, leb, ltb}
use lib.ListN.{length}
use Rattle.base.specs.Masks.{past_states}
use Rattle.base.specs.Checks.{first_of}
use Rattle.base.proofs.Tests.{eqb_iff, leb_iff, ltb_iff, ne_iff, not_iff, and_iff}
use Rattle.base.proofs.Masks.{nonempty, has-below, has-past, past_below}
use Rattle.table.specs.declared.Head.{Head}
use Rattle.table.specs.declared.Line.{Line}
use Rattle.table.specs.Table.{head_of, line_at}
use Rattle.meaning.specs.Tables.{table_of, no_bound, horizon}
use Rattle.meaning.specs.Runs.{letter}
use Rattle.faults.specs.Faults.{longest_age, bad_counts, bad_length, bad_masks, bad_parts, bad_ages, line_fault, table_fault}
use Rattle.faults.specs.Sound.{Sound}
use Rattle.faults.proofs.Laws.{sound-iff}
use Rattle.record.specs.declared.Record.{Record}
use Rattle.record.specs.Records.{properb}
use Rattle.record.proofs.Properness.{proper-iff}
use Rattle.calls.specs.Calls.{needed, stepped, ProperFor, start_fault, record_fault, letter_fault, span_fault}
use Rattle.demands.specs.Order.{AllPass, Answers}
use Rattle.demands.specs.Counting.{ThereAre}
use Rattle.demands.specs.Refusals.{HasFrom, BadRoom, StretchOf, WantsRoom, line_checks, lines_checks, table_checks, start_checks, record_checks, letter_checks, span_checks}
use Rattle.demands.proofs.Order.{none, Tells, ◌or◌, regroup, one, ◌before◌}
use Rattle.demands.proofs.Counting.{there_are-one, stretches_counted}

-- ---- single tests

at_least : (m n : ℕ) → Tells (leb m n) (m ≤ n)
at_least m n = record { iff = leb_iff m n }

above : (m n : ℕ) → Tells (ltb m n) (m < n)
above m n = record { iff = ltb_iff m n }

other : (m n : ℕ) → Tells (not (eqb m n)) (m ≢ n)
other m n = record { iff = ne_iff m n }

is_0 : (n : ℕ) → Tells (eqb n 0) (n ≡ 0)
is_0 n = record { iff = eqb_iff n 0 }

none_of : (n : ℕ) → Tells (eqb n 0) (n < 1)
none_of n = record { iff = Iff.trans (eqb_iff n 0) ((λ e. omega arith), λ l. omega arith) }

past : (n mask : ℕ) → Tells (past_states n mask) (HasFrom n mask)
past n mask = record { iff = Iff.trans (ne_iff (mask / 2 ^ n) 0) (to, from) }
  where
    to : mask / 2 ^ n ≢ 0 → HasFrom n mask
    to h = let i = nonempty (mask / 2 ^ n) h in (n + i.0, omega arith, (has-past n mask i.0).0 i.1)

    from : HasFrom n mask → mask / 2 ^ n ≢ 0
    from (q, l, h) e = omega (arith, has-below n mask q ((past_below n mask).0 e) h)

outside : (room : ℕ) → Tells (not (leb 1 room && leb room 64)) (BadRoom room)
outside room = record { iff = Iff.trans (Iff.trans (not_iff (leb 1 room && leb room 64)) (Iff.not within)) (to, from) }
  where
    within : Is (leb 1 room && leb room 64) ↔ ((1 ≤ room) × (room ≤ 64))
    within = and_iff (leb 1 room) (leb room 64) (leb_iff 1 room) (leb_iff room 64)

    to : ¬ ((1 ≤ room) × (room ≤ 64)) → BadRoom room
    to h = go (dec_lt room 1)
      where
        go : Dec (room < 1) → BadRoom room
        go (yes l) = inl l
        go (no l) = inr (let n : ¬ (room ≤ 64) = λ u. h (omega arith, u) in omega arith)

    from : BadRoom room → ¬ ((1 ≤ room) × (room ≤ 64))
    from (inl l) h = omega (arith, h.0)
    from (inr l) h = omega (arith, h.1)

-- ---- the table

line_answers : (h : Head) (l : Line) → Answers (line_checks h l) (line_fault h l)
unfolding line_fault bad_parts bad_ages
line_answers h l =
    let ends = at_least h.states l.from or at_least h.states l.to in
    let parts = regroup (regroup (ends or at_least h.letters l.letter or above 1 l.flags)) in
    let unbounded : Tells _ ((longest_age < l.greatest) × (l.greatest ≢ no_bound)) = record {
      iff = and_iff (ltb longest_age l.greatest) (not (eqb l.greatest no_bound))
          (ltb_iff longest_age l.greatest) (ne_iff l.greatest no_bound);
    } in
    let ages = regroup (above longest_age l.least or unbounded or above l.greatest l.least) in
    one 5 parts before one 6 ages

lines_answer : (b : List ℕ) (e : ℕ)
    → Answers (lines_checks b e) (first_of e (λ k. line_fault (head_of b) (line_at b k)))
unfolding lines_checks first_of
lines_answer b zero = none
lines_answer b (suc e) = lines_answer b e before line_answers (head_of b) (line_at b e)

pub table-answers : (b : List ℕ) → Answers (table_checks b) (table_fault b)
unfolding table_fault bad_counts bad_length bad_masks
table-answers b =
    let h = head_of b in
    let states = none_of h.states or above 16 h.states in
    let counts = states or none_of h.letters or above 32 h.letters or above 64 h.lines in
    let lengths = other h.length (12 + 12 * h.lines) or other h.length (length b) in
    let masks = past h.states h.initial or past h.states h.standing or past h.states h.accepting in
    one 0 (above (length b) 12)
    before one 1 (other h.version 1)
    before one 2 (regroup (regroup (regroup counts)))
    before one 3 lengths
    before one 4 (regroup masks)
    before lines_answer b h.lines

-- a table passes all of these checks exactly if it is sound
pub sound-passes : (b : List ℕ) → AllPass (table_checks b) ↔ Sound b
sound-passes b = Iff.trans (Iff.symm (table-answers b).accepted) (sound-iff b)

-- ---- the calls

module _ (b : List ℕ) where
  pub start_answers : (room : ℕ) → Answers (start_checks b room) (start_fault b room)
  unfolding start_fault
  start_answers room = table-answers b before one 7 (outside room)

  module _ (r : Record) where
    improper : Tells (not (properb (horizon (table_of b)) (table_of b).states r)) (¬ ProperFor b r)
    improper = record { iff = Iff.trans (not_iff (properb H n r)) (Iff.not (proper-iff H n r)) }
      where
        H : ℕ
        H = horizon (table_of b)

        n : ℕ
        n = (table_of b).states

    pub record_answers : Answers (record_checks b r) (record_fault b r)
    unfolding record_fault
    record_answers = table-answers b before one 7 improper

    -- the stretches of the pairs after the letter are more than the room takes
    wanting : (a : ℕ) → Tells (ltb r.room (needed b (stepped b r (letter a)))) (WantsRoom b r a)
    wanting a = record { iff = Iff.trans (ltb_iff r.room many) ((λ l. (many, counted, l)), from) }
      where
        many : ℕ
        many = needed b (stepped b r (letter a))

        counted : ThereAre many (StretchOf b (stepped b r (letter a)))
        counted = stretches_counted (horizon (table_of b)) (stepped b r (letter a))

        from : WantsRoom b r a → r.room < many
        from (n, are, l) = omega (arith, l, there_are-one n many (StretchOf b (stepped b r (letter a))) are counted)

    pub letter_answers : (a : ℕ) → Answers (letter_checks b r a) (letter_fault b r a)
    unfolding letter_fault
    letter_answers a = record_answers before one 8 (at_least (table_of b).letters a) before one 10 (wanting a)

    pub span_answers : (s : ℕ) → Answers (span_checks b r s) (span_fault b r s)
    unfolding span_fault
    span_answers s = record_answers before one 9 (is_0 s or above 2147483647 s)
