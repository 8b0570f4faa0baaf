-- When a call is accepted, both ways (`start_fault-iff`, `record_fault-iff`, `letter_fault-iff`, `span_fault-iff`); what it hands
-- back when it is refused (`start_refused`, `letter_refused`, `span_refused`, `gap_refused`) and when it is accepted
-- (`start_holds`, `letter_holds`, `span_holds`, `gap_holds`). The count that is told of a proper record is the one it holds
-- (`count_held`); a gap after a gap changes nothing (`gap_gap`). Assumes nothing.
use Prim.Native.Nat.{ℕ, zero, suc, ◌≤◌, ◌<◌}
use mathlib.Core.Path.{◌≡◌, refl, sym, ap, ◌∙◌, subst}
use mathlib.Core.Logic.{◌↔◌, ◌≢◌}
use mathlib.Core.List.{List}
use mathlib.Core.Bool.{◌&&◌, not}
use native.Mathlib.Nat.{le_trans}
use native.Mathlib.Omega.{arith}
use lib.Dec.{T as Is, leb}
use lib.ListN.{length}
use Rattle.base.specs.Checks.{◌if◌}
use Rattle.base.proofs.Tests.{leb_iff, and_iff}
use Rattle.base.proofs.Checks.{Passes, ◌or◌, ◌and_then◌, check, below, at_most, not_zero, unless}
use Rattle.meaning.specs.Tables.{Table, table_of, horizon}
use Rattle.meaning.specs.Runs.{Symbol, letter, span}
use Rattle.faults.specs.Faults.{table_fault}
use Rattle.faults.specs.Sound.{Sound}
use Rattle.faults.proofs.Laws.{sound-iff, sound-closed}
use Rattle.record.specs.declared.Record.{Record}
use Rattle.record.specs.Pairs.{Pairs, start_pairs, gap_pairs}
use Rattle.record.specs.Records.{blank_record, record_of, properb}
use Rattle.record.proofs.Records.{count_used, record_of-whole, record_of-pairs, record_of-proper, proper-pairs}
use Rattle.record.proofs.Properness.{proper-iff}
use Rattle.record.proofs.Pairs.{Ok, step_ok, start_ok, gap_ok}
use Rattle.record.proofs.Counts.{start_count, gap_count, span_count}
use Rattle.calls.specs.Calls.{pairs_of, holding, needed, stepped, ProperFor, start_fault, record_fault, letter_fault, span_fault, answer, start_of, letter_of, span_of, gap_of, told, reply_number, reply, count_of}

-- ---- when a call is accepted

module _ (b : List ℕ) where
  table-passes : Passes (table_fault b) (Sound b)
  table-passes = record { iff = sound-iff b }

  pub start_fault-iff : (room : ℕ) → (start_fault b room ≡ 0) ↔ (Sound b × ((1 ≤ room) × (room ≤ 64)))
  unfolding start_fault
  start_fault-iff room = (table-passes and_then check 7 (unless (leb 1 room && leb room 64) in_range)).iff
    where
      in_range : Is (leb 1 room && leb room 64) ↔ ((1 ≤ room) × (room ≤ 64))
      in_range = and_iff (leb 1 room) (leb room 64) (leb_iff 1 room) (leb_iff room 64)

  record_passes : (r : Record) → Passes (record_fault b r) (Sound b × ProperFor b r)
  unfolding record_fault
  record_passes r = table-passes and_then check 7 (unless (properb H n r) (proper-iff H n r))
    where
      H : ℕ
      H = horizon (table_of b)

      n : ℕ
      n = (table_of b).states

  pub record_fault-iff : (r : Record) → (record_fault b r ≡ 0) ↔ (Sound b × ProperFor b r)
  record_fault-iff r = (record_passes r).iff

  -- as code asks: the table passed, H and n are its horizon and its number of states, and v is the number of the record
  pub record_fault-on : (r : Record) (H n v : ℕ) → 0 ≡ table_fault b → H ≡ horizon (table_of b) → n ≡ (table_of b).states
      → v ≡ (8 if not (properb H n r)) → v ≡ record_fault b r
  unfolding record_fault
  record_fault-on r H n v passed h s e = rw (← passed, ← h, ← s) e

  pub letter_fault-iff : (r : Record) (a : ℕ) → (letter_fault b r a ≡ 0)
      ↔ ((Sound b × ProperFor b r) × ((a < (table_of b).letters) × (needed b (stepped b r (letter a)) ≤ r.room)))
  unfolding letter_fault
  letter_fault-iff r a =
      let known = check 8 (below (table_of b).letters a) in
      let room = check 10 (at_most r.room (needed b (stepped b r (letter a)))) in
      (record_passes r and_then known and_then room).iff

  pub span_fault-iff : (r : Record) (s : ℕ) → (span_fault b r s ≡ 0) ↔ ((Sound b × ProperFor b r) × ((1 ≤ s) × (s ≤ 2147483647)))
  unfolding span_fault
  span_fault-iff r s = (record_passes r and_then check 9 (not_zero s or at_most 2147483647 s)).iff

-- ---- what a call hands back

answer-refused : (n : ℕ) (old new : Record) → (answer n old new).number ≢ 0 → (answer n old new).next ≡ old
answer-refused zero old new h = absurd (h refl)
answer-refused (suc n) old new h = refl

answer-number : (n : ℕ) (old new : Record) → (answer n old new).number ≡ n
answer-number zero old new = refl
answer-number (suc n) old new = refl

answer-accepted : (n : ℕ) (old new : Record) → n ≡ 0 → (answer n old new).next ≡ new
answer-accepted zero old new e = refl
answer-accepted (suc n) old new e = absurd (let z : ⊥ = omega arith in z)

-- "Every refused call returns its number with the record exactly as handed in; a refused start returns a record of all zeros."
module _ (b : List ℕ) where
  pub start_refused : (room : ℕ) → (start_of b room).number ≢ 0 → (start_of b room).next ≡ blank_record
  unfolding start_of
  start_refused room = answer-refused (start_fault b room) blank_record (holding b room (start_pairs (table_of b)))

  pub letter_refused : (r : Record) (a : ℕ) → (letter_of b r a).number ≢ 0 → (letter_of b r a).next ≡ r
  unfolding letter_of
  letter_refused r a = answer-refused (letter_fault b r a) r (holding b r.room (stepped b r (letter a)))

  pub span_refused : (r : Record) (s : ℕ) → (span_of b r s).number ≢ 0 → (span_of b r s).next ≡ r
  unfolding span_of
  span_refused r s = answer-refused (span_fault b r s) r (holding b r.room (stepped b r (span s)))

  pub gap_refused : (r : Record) → (gap_of b r).number ≢ 0 → (gap_of b r).next ≡ r
  unfolding gap_of
  gap_refused r = answer-refused (record_fault b r) r (holding b r.room (gap_pairs (table_of b)))

  -- an accepted letter's record is the one that holds the pairs after it
  pub letter_next : (r : Record) (a : ℕ) → (letter_of b r a).number ≡ 0
      → (letter_of b r a).next ≡ holding b r.room (stepped b r (letter a))
  unfolding letter_of
  letter_next r a z = answer-accepted (letter_fault b r a) r _ (sym (answer-number (letter_fault b r a) r _) ∙ z)

  -- the number that a call carries is that of its first failed check, 0 where none failed
  pub call-numbers : (room : ℕ) (r : Record) (a s : ℕ)
      → ((start_of b room).number ≡ start_fault b room) × ((letter_of b r a).number ≡ letter_fault b r a)
      × ((span_of b r s).number ≡ span_fault b r s) × ((gap_of b r).number ≡ record_fault b r)
  unfolding start_of letter_of span_of gap_of
  call-numbers room r a s = (
    answer-number (start_fault b room) _ _,
    answer-number (letter_fault b r a) _ _,
    answer-number (span_fault b r s) _ _,
    answer-number (record_fault b r) _ _,
  )

-- the same of a question
pub reply-number : {A : Type 0} (n : ℕ) (a : A) → reply_number (reply n a) ≡ n
reply-number zero a = refl
reply-number (suc n) a = refl

-- the record r has the room and its 64 places, is proper, and says the pairs f
pub record Holds (b : List ℕ) (room : ℕ) (f : Pairs) (r : Record) : Type 0 where
  pub same-room : r.room ≡ room
  pub whole : length r.places ≡ 64
  pub proper : ProperFor b r
  pub pairs : (k : ℕ) → k ≤ suc (horizon (table_of b)) → pairs_of b r k ≡ f k

holding-holds : (b : List ℕ) (room : ℕ) (f : Pairs) → Ok (table_of b) f → needed b f ≤ room → 1 ≤ room → room ≤ 64
    → Holds b room f (holding b room f)
unfolding record_of
holding-holds b room f ok fits low high = record {
  same-room = refl;
  whole = record_of-whole room H n f ok fits low high;
  proper = record_of-proper room H n f ok fits low high;
  pairs = record_of-pairs room H n f ok fits low high;
}
  where
    H : ℕ
    H = horizon (table_of b)

    n : ℕ
    n = (table_of b).states

-- an accepted answer is the new record
handed : (b : List ℕ) (room : ℕ) (f : Pairs) (n : ℕ) (old : Record) → (answer n old (holding b room f)).number ≡ 0
    → (n ≡ 0 → Holds b room f (holding b room f))
    → Holds b room f (answer n old (holding b room f)).next
handed b room f n old e h = subst (Holds b room f) (sym (answer-accepted n old (holding b room f) z)) (h z)
  where
    z : n ≡ 0
    z = sym (answer-number n old (holding b room f)) ∙ e

module _ (b : List ℕ) where
  abbrev T : Table
  T = table_of b

  pub start_holds : (room : ℕ) → (start_of b room).number ≡ 0 → Holds b room (start_pairs (table_of b)) (start_of b room).next
  unfolding start_of
  start_holds room e = handed b room (start_pairs T) (start_fault b room) _ e
      (λ z. let p = (start_fault-iff b room).0 z in
      let ok = start_ok T (sound-closed b p.0) in
      holding-holds b room (start_pairs T) ok (le_trans (start_count T (horizon T)) p.1.0) p.1.0 p.1.1)

  module _ (r : Record) where
    -- the pairs after a symbol are proper ones
    stepped-ok : Sound b → ProperFor b r → (x : Symbol) → Ok T (stepped b r x)
    stepped-ok s p x = step_ok T (sound-closed b s) x (pairs_of b r) (λ k l. proper-pairs (horizon T) T.states r p k)

    -- proper pairs that fit, in the room that a proper record has
    in_its_room : (f : Pairs) → ProperFor b r → Ok T f → needed b f ≤ r.room → Holds b r.room f (holding b r.room f)
    in_its_room f p ok fits = holding-holds b r.room f ok fits p.room_low p.room_high

    pub letter_holds : (a : ℕ) → (letter_of b r a).number ≡ 0 → Holds b r.room (stepped b r (letter a)) (letter_of b r a).next
    unfolding letter_of
    letter_holds a e = handed b r.room (stepped b r (letter a)) (letter_fault b r a) r e
        (λ z. let p = (letter_fault-iff b r a).0 z in
        in_its_room (stepped b r (letter a)) p.0.1 (stepped-ok p.0.0 p.0.1 (letter a)) p.1.1)

    -- a span always finds room
    pub span_holds : (s : ℕ) → (span_of b r s).number ≡ 0 → Holds b r.room (stepped b r (span s)) (span_of b r s).next
    unfolding span_of
    span_holds s e = handed b r.room (stepped b r (span s)) (span_fault b r s) r e
        (λ z. let p = (span_fault-iff b r s).0 z in
        in_its_room (stepped b r (span s)) p.0.1 (stepped-ok p.0.0 p.0.1 (span s)) (fits p.0.1))
      where
        fits : ProperFor b r → needed b (stepped b r (span s)) ≤ r.room
        fits p = le_trans (span_count T s (pairs_of b r)) (omega (arith, count_used (horizon T) T.states r p, p.fits))

    pub gap_holds : (gap_of b r).number ≡ 0 → Holds b r.room (gap_pairs (table_of b)) (gap_of b r).next
    unfolding gap_of
    gap_holds e = handed b r.room (gap_pairs T) (record_fault b r) r e
        (λ z. let p = (record_fault-iff b r).0 z in
        in_its_room (gap_pairs T) p.1 (gap_ok T) (le_trans (gap_count T (horizon T)) p.1.room_low))

    -- the count that is told is the one that the record holds
    pub count_held : record_fault b r ≡ 0 → count_of b r ≡ told r.count
    unfolding count_of
    count_held e =
        ap (λ (n : ℕ). reply n (needed b (pairs_of b r))) e
        ∙ ap told (count_used (horizon T) T.states r ((record_fault-iff b r).0 e).1)

    -- "A gap after a gap gives the same record as the first."
    pub gap_gap : (gap_of b r).number ≡ 0 → gap_of b (gap_of b r).next ≡ gap_of b r
    unfolding gap_of
    gap_gap e = again (record_fault b r) (record_fault b next)
        passed ((record_fault-iff b next).1 (sound, held.proper)) held.same-room
      where
        new : Record
        new = holding b r.room (gap_pairs T)

        next : Record
        next = (answer (record_fault b r) r new).next

        held : Holds b r.room (gap_pairs T) next
        held = gap_holds e

        passed : record_fault b r ≡ 0
        passed = sym (answer-number (record_fault b r) r new) ∙ e

        sound : Sound b
        sound = ((record_fault-iff b r).0 passed).0

        again : (m n : ℕ) → m ≡ 0 → n ≡ 0 → next.room ≡ r.room
            → answer n next (holding b next.room (gap_pairs T)) ≡ answer m r new
        again zero zero d e room = ap (λ (x : ℕ). answer 0 next (holding b x (gap_pairs T))) room
        again zero (suc n) d e room = absurd (let z : ⊥ = omega arith in z)
        again (suc m) n d e room = absurd (let z : ⊥ = omega arith in z)
