-- What an entry's call hands back is again a proper record for the same table (`call_known`, `next_proper`), and so is what a start
-- hands back (`start_known`): the checks 1 to 8, made once, hold for the whole session. So a step answers as its call does
-- (`letter_answered` and its likes), and a line tells what the questions are told (`as_told`). Then how long a line is, and the
-- table and the frame, as code asks. Assumes nothing.
use Prim.Native.Nat.{ℕ, ◌+◌, ◌-◌, ◌≤◌, ◌<◌, min}
use mathlib.Core.Path.{◌≡◌, sym, ap, ◌∙◌, subst}
use mathlib.Core.Logic.{◌≢◌}
use mathlib.Core.List.{List}
use mathlib.Core.Bool.{Bool, true, false, cond, ◌&&◌}
use native.Mathlib.Decide.{ℕ_discrete}
use native.Mathlib.Omega.{arith}
use lib.Dec.{T as Is, eqb, leb, ltb}
use lib.ListN.{length, get_or, take, drop, length-take, length-drop}
use lib.Seq.{take_all}
use borrow.Author.Tests.{eq-eqb, ne_eqb, lt-ltb, le-ltb}
use Rattle.std.proofs.lemmas.List.{get_or-drop}
use Rattle.base.proofs.Tests.{and_iff, leb_iff, eqb_iff}
use Rattle.table.specs.Numbers.{byte, be16_of}
use Rattle.meaning.specs.Tables.{Table, table_of, horizon}
use Rattle.faults.specs.Sound.{Sound}
use Rattle.record.specs.declared.Record.{Record}
use Rattle.record.specs.Pairs.{Pairs}
use Rattle.record.specs.Records.{pairs_at, Proper, properb}
use Rattle.record.specs.Verdicts.{Verdict, verdict_at, settled_at}
use Rattle.record.proofs.Records.{count_used}
use Rattle.known.specs.Known.{Known}
use Rattle.known.specs.declared.Known.{Known as Watch}
use Rattle.known.proofs.Laws.{known_of, proper-kept, proper-held}
use Rattle.verdicts.specs.Said.{settled_in}
use Rattle.verdicts.proofs.Laws.{settled_in_lem}
use Rattle.calls.specs.declared.Answer.{Answer}
use Rattle.calls.specs.Calls.{pairs_of, start_of, letter_of, span_of, gap_of, letter_step, span_step, gap_step}
use Rattle.calls.proofs.Laws.{Holds, start_fault-iff, call-numbers, start_holds, letter_holds, span_holds, gap_holds}
use Rattle.calls.proofs.Laws.{letter_refused, span_refused, gap_refused}
use Rattle.calls.proofs.Steps.{letter_known, span_known, gap_known}
use Rattle.entries.specs.declared.Symbol.{Symbol}
use Rattle.entries.specs.declared.Symbol.TheVariants.{Letter, Span, Gap}
use Rattle.text.specs.Text.{line_text, refusal_text}
use Rattle.text.proofs.Laws.{line_length, refusal-length}
use Rattle.session.specs.Sessions.{framed, table_length, table_in, call_of, held_text, answer_text}

-- ---- the record stays known

module _ (b : List ℕ) (H : ℕ) (r : Record) (k : Known b H r) where
  -- an accepted call hands back a record that holds its pairs, a refused one the record that it was handed
  kept : (x : Answer) (f : Pairs) → (x.number ≡ 0 → Holds b r.room f x.next) → (x.number ≢ 0 → x.next ≡ r)
      → Known b H x.next
  kept x f holds back = go (ℕ_discrete x.number 0)
    where
      go : Dec (x.number ≡ 0) → Known b H x.next
      go (yes z) = record {
        sound = k.sound;
        reach = k.reach;
        proper = subst (λ (h : ℕ). Proper h (table_of b).states x.next) (sym k.reach) (holds z).proper;
      }
      go (no n) = subst (Known b H) (sym (back n)) k

  pub call_known : (y : Symbol) → Known b H (call_of b r y).next
  call_known (Letter a) = kept (letter_of b r a) _ (letter_holds b r a) (letter_refused b r a)
  call_known (Span s) = kept (span_of b r s) _ (span_holds b r s) (span_refused b r s)
  call_known Gap = kept (gap_of b r) _ (gap_holds b r) (gap_refused b r)

  -- as code asks: the steps, by the symbol's case
  module _ (x : Answer) (y : Symbol) where
    pub letter_answered : (a : ℕ) → y ≡ Letter a → x ≡ letter_step b r a → x ≡ call_of b r y
    letter_answered a e h = rw e (h ∙ sym (letter_known b H r k a))

    pub span_answered : (s : ℕ) → y ≡ Span s → x ≡ span_step b r s → x ≡ call_of b r y
    span_answered s e h = rw e (h ∙ sym (span_known b H r k s))

    pub gap_answered : y ≡ Gap → x ≡ gap_step b r → x ≡ call_of b r y
    gap_answered e h = rw e (h ∙ sym (gap_known b H r k))

  -- what the code asks of the record, and what the line is to tell
  pub as_told : (ordinal : ℕ) (v : Verdict) (same : Bool) → v ≡ verdict_at (table_of b) (pairs_at (horizon (table_of b)) r)
      → same ≡ settled_in r → line_text ordinal v same r.count ≡ held_text b ordinal r
  as_told ordinal v same e d =
      ap (λ (x : Verdict). line_text ordinal x same r.count) e
      ∙ ap (λ (x : Bool). line_text ordinal (verdict_at T f) x r.count) (d ∙ settled_in_lem T T.states r proper)
      ∙ ap (line_text ordinal (verdict_at T f) (settled_at T f)) (sym (count_used (horizon T) T.states r proper))
    where
      T : Table
      T = table_of b

      f : Pairs
      f = pairs_of b r

      proper : Proper (horizon T) T.states r
      proper = proper-held b H r k

-- as code asks: what a call hands back, which answered x, is proper for the watch that made it
pub next_proper : (k : Watch) (y : Symbol) (x : Answer) → x ≡ call_of k.table.bytes.now k.held y
    → properb k.horizon k.table.head.states x.next ≡ true
next_proper k y x e =
    subst (λ (a : Answer). properb k.horizon k.table.head.states a.next ≡ true) (sym e)
    (proper-kept _ _ _ _ k.table.headed (call_known _ _ _ (known_of k) y))

pub start_known : (b : List ℕ) (room H : ℕ) (a : Answer) → a ≡ start_of b room → a.number ≡ 0 → H ≡ horizon (table_of b)
    → Known b H a.next
start_known b room H a e z h = record { sound = sound; reach = h; proper = proper }
  where
    zero_number : (start_of b room).number ≡ 0
    zero_number = sym (ap (λ (x : Answer). x.number) e) ∙ z

    sound : Sound b
    sound = ((start_fault-iff b room).0 (sym (call-numbers b room a.next 0 0).0 ∙ zero_number)).0

    proper : Proper H (table_of b).states a.next
    proper = subst (λ (x : Answer). Proper H (table_of b).states x.next) (sym e)
        (subst (λ (h : ℕ). Proper h (table_of b).states (start_of b room).next) (sym h) (start_holds b room zero_number).proper)

-- ---- the line of an answer

module _ (b : List ℕ) (ordinal : ℕ) (a : Answer) where
  pub answer-accepted : a.number ≡ 0 → answer_text b ordinal a ≡ held_text b ordinal a.next
  unfolding answer_text
  answer-accepted z = rw (eq-eqb a.number 0 z)

  pub answer-refused : a.number ≢ 0 → answer_text b ordinal a ≡ refusal_text ordinal a.number
  unfolding answer_text
  answer-refused n = rw (ne_eqb a.number 0 n)

  pub answer-length : length (answer_text b ordinal a) ≤ 27
  answer-length = go (ℕ_discrete a.number 0)
    where
      go : Dec (a.number ≡ 0) → length (answer_text b ordinal a) ≤ 27
      go (yes z) = rw (answer-accepted z) (line_length ordinal _ _ _)
      go (no n) = rw (answer-refused n) (refusal-length ordinal a.number)

-- ---- the table, as code cuts it off from what is left

module _ (s : List ℕ) where
  abbrev rest : List ℕ
  rest = take (length s - 2) (drop 2 s)

  rest_is : rest ≡ drop 2 s
  rest_is = take_all (length s - 2) (drop 2 s) (omega (arith, length-drop 2 s))

  rest_long : length rest ≡ length s - 2
  rest_long = ap length rest_is ∙ length-drop 2 s

  at_place : (i : ℕ) → get_or rest i 0 ≡ byte s (2 + i)
  at_place i = rw rest_is (get_or-drop 2 s i 0)

  pub table-cut : (n : ℕ) → n ≡ table_length s → take n rest ≡ table_in s
  unfolding table_in
  table-cut n e = rw (e, rest_is)

  -- where fewer than 3 bytes are left, and else
  pub table-all : length rest < 3 → rest ≡ table_in s
  unfolding table_in table_length
  table-all few = rw (lt-ltb (length s - 2) 3 (omega (arith, rest_long)))

  pub length_stated : (stated n : ℕ) → stated ≡ be16_of (get_or rest 1 0) (get_or rest 2 0) → n ≡ min stated (length rest)
      → 3 ≤ length rest → n ≡ table_length s
  unfolding table_length
  length_stated stated n e m more =
      let as_stated : stated ≡ be16_of (byte s 3) (byte s 4) = rw (at_place 1, at_place 2) at e in
      rw (le-ltb (length s - 2) 3 (omega (arith, rest_long)), ← as_stated, ← rest_long) m

-- ---- the frame, as code asks

module _ (s : List ℕ) (f : framed s ≡ true) where
  pub framed-within : (2 ≤ length s) × (length s ≤ 32768)
  unfolding framed
  framed-within =
      let long = leb 2 (length s) in
      let short = leb (length s) 32768 in
      let bounds = and_iff long short (leb_iff 2 (length s)) (leb_iff (length s) 32768) in
      ((and_iff (long && short) (eqb (byte s 0) 1) bounds (eqb_iff (byte s 0) 1)).0 (subst Is (sym f) tt)).0

  -- the table ends within the session
  pub table-within : 2 + table_length s ≤ length s
  unfolding table_length
  table-within = go (ltb (length s - 2) 3)
    where
      go : (b : Bool) → 2 + cond b (length s - 2) (min (be16_of (byte s 3) (byte s 4)) (length s - 2)) ≤ length s
      go true = omega (arith, framed-within.0)
      go false = omega (arith, framed-within.0)

  -- and is as long as was cut off
  pub table-length : length (table_in s) ≡ table_length s
  unfolding table_in
  table-length = omega (arith, table-within, length-take (table_length s) (drop 2 s), length-drop 2 s)
