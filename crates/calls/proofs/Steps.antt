-- Each call is its checks and its step (`start_call`, `letter_call`, `span_call`, `gap_call`; a question is so by its definition).
-- Then what code asks on the way: the checks 1 to 8 tell what the steps need (`known`), a call is its step where they passed
-- (`letter_known`, ..), and a step answers by what was built (`letter_unknown`, `letter_over`, `letter_fits`, `span_passes`, ..).
-- Assumes nothing.
use Prim.Native.Nat.{ℕ, zero, suc, ◌≤◌, ◌<◌}
use mathlib.Core.Path.{◌≡◌, refl, sym, ap, ◌∙◌, subst}
use mathlib.Core.Logic.{◌↔◌}
use mathlib.Core.List.{List}
use mathlib.Core.Bool.{Bool, true, false, ◌||◌, not, true≢false}
use native.Mathlib.Decide.{dec_le}
use native.Mathlib.Omega.{arith}
use lib.Dec.{leb, eqb, ltb}
use Rattle.base.proofs.Checks.{◌or◌, at_most, not_zero}
use Rattle.base.proofs.Tests.{is_true}
use Rattle.std.specs.Prelude.{Result, Ok, Err, IsErrAnd}
use borrow.Author.Tests.{not-true, not-false, le-leb, lt-leb, le-ltb, lt-ltb, ne_eqb}
use Rattle.base.specs.Checks.{◌then◌}
use Rattle.table.specs.declared.Head.{Head}
use Rattle.table.specs.Table.{head_of}
use Rattle.meaning.specs.Tables.{Table, table_of, horizon}
use Rattle.meaning.specs.Runs.{letter, span}
use Rattle.faults.specs.declared.Fault.{Fault}
use Rattle.faults.specs.Numbered.{number}
use Rattle.faults.proofs.Numbered.{number-some}
use Rattle.record.specs.declared.Record.{Record}
use Rattle.record.specs.Pairs.{start_pairs, gap_pairs, step_pairs}
use Rattle.record.specs.Records.{blank_record, pairs_at, record_of}
use Rattle.record.specs.Verdicts.{verdict_at, settled_at}
use Rattle.record.specs.Building.{built_of}
use Rattle.record.proofs.Building.{built-fits, built-over}
use Rattle.known.specs.Known.{Known}
use Rattle.known.proofs.Laws.{proper-held}
use Rattle.spans.specs.Spans.{span_pairs}
use Rattle.spans.proofs.Laws.{span_stepped}
use Rattle.calls.specs.declared.Answer.{Answer}
use Rattle.calls.specs.Calls.{holding, needed, stepped, ProperFor, start_fault, record_fault, letter_fault, span_fault, answer, start_of, letter_of, span_of, gap_of, accepted, refusal, letter_step, span_step, gap_step, checked, refused, told, reply, pairs_of, verdict_of, settled_of, count_of, replied}
use Rattle.calls.proofs.Laws.{record_fault-iff}

-- ---- each call is its checks and its step

checked-then : (m n : ℕ) (old new : Record) → answer (m then n) old new ≡ checked m old (answer n old new)
checked-then zero n old new = refl
checked-then (suc m) n old new = refl

checked-answer : (n : ℕ) (old new : Record) → answer n old new ≡ checked n old (accepted new)
checked-answer zero old new = refl
checked-answer (suc n) old new = refl

module _ (b : List ℕ) where
  pub start_call : (room : ℕ)
      → start_of b room ≡ checked (start_fault b room) blank_record (accepted (holding b room (start_pairs (table_of b))))
  unfolding start_of
  start_call room = checked-answer (start_fault b room) blank_record _

  pub letter_call : (r : Record) (a : ℕ) → letter_of b r a ≡ checked (record_fault b r) r (letter_step b r a)
  unfolding letter_of letter_fault letter_step
  letter_call r a = checked-then (record_fault b r) _ r _

  pub span_call : (r : Record) (s : ℕ) → span_of b r s ≡ checked (record_fault b r) r (span_step b r s)
  unfolding span_of span_fault span_step
  span_call r s = checked-then (record_fault b r) _ r _

  pub gap_call : (r : Record) → gap_of b r ≡ checked (record_fault b r) r (gap_step b r)
  unfolding gap_of gap_step
  gap_call r = checked-answer (record_fault b r) r _

-- as code asks: the number f of the checks, and what is answered then
pub call-refused : (f m : ℕ) (r : Record) (step : Answer) → f ≡ m → (f ≡ 0 → ⊥)
    → refusal f r ≡ checked m r step
call-refused f zero r step e n = absurd (n e)
call-refused f (suc m) r step e n = rw e

pub call-passed : (f m : ℕ) (r : Record) (step v : Answer) → f ≡ m → f ≡ 0 → v ≡ step → v ≡ checked m r step
call-passed f zero r step v e z h = h
call-passed f (suc m) r step v e z h = absurd (let none : ⊥ = omega arith in none)

module _ {A : Type 0} (f m : ℕ) (v : A) (e : f ≡ m) where
  pub ask_refused : (f ≡ 0 → ⊥) → refused f ≡ reply m v
  ask_refused n = go m e
    where
      go : (m : ℕ) → f ≡ m → refused f ≡ reply m v
      go zero e = absurd (n e)
      go (suc m) e = ap refused e

  pub ask_passed : f ≡ 0 → (x : A) → x ≡ v → told x ≡ reply m v
  ask_passed z x h = go m e
    where
      go : (m : ℕ) → f ≡ m → told x ≡ reply m v
      go zero e = ap told h
      go (suc m) e = absurd (let none : ⊥ = omega arith in none)

-- a question's refusal, as `?` hands it on
pub refused_by : {A B : Type 0} (g : A → B) (x : Result A Fault) (f : Fault) (m : ℕ) (v : B)
    → IsErrAnd x (λ y. y ≡ f) → number f ≡ m → replied g x ≡ reply m v
refused_by g (Ok a) f m v h e = absurd h
refused_by g (Err y) f m v h e = ask_refused (number y) m v (ap number h ∙ e) (number-some y)

-- a start, which has no record to hand back
module _ (b : List ℕ) (room f : ℕ) (next : Record) (e : f ≡ start_fault b room) where
  pub begin_refused : (f ≡ 0 → ⊥) → next ≡ blank_record → refusal f next ≡ start_of b room
  begin_refused n h =
      ap (refusal f) h
      ∙ call-refused f (start_fault b room) blank_record _ e n
      ∙ sym (start_call b room)

  pub begin_passed : f ≡ 0 → next ≡ holding b room (start_pairs (table_of b)) → accepted next ≡ start_of b room
  begin_passed z h =
      call-passed f (start_fault b room) blank_record _ _ e z (ap accepted h)
      ∙ sym (start_call b room)

-- ---- what the checks tell

pub known : (b : List ℕ) (H : ℕ) (r : Record) (f : ℕ) → f ≡ record_fault b r → f ≡ 0 → H ≡ horizon (table_of b) → Known b H r
known b H r f e z h = let passed = (record_fault-iff b r).0 (sym e ∙ z) in
    record { sound = passed.0; reach = h; proper = rw h passed.1 }

pub proper-known : (b : List ℕ) (r : Record) (f : ℕ) → f ≡ record_fault b r → f ≡ 0 → ProperFor b r
proper-known b r f e z = ((record_fault-iff b r).0 (sym e ∙ z)).1

-- where they passed, a call is its step
module _ (b : List ℕ) (H : ℕ) (r : Record) (k : Known b H r) where
  passed : record_fault b r ≡ 0
  passed = (record_fault-iff b r).1 (k.sound, proper-held b H r k)

  pub letter_known : (a : ℕ) → letter_of b r a ≡ letter_step b r a
  letter_known a = letter_call b r a ∙ ap (λ (n : ℕ). checked n r (letter_step b r a)) passed

  pub span_known : (s : ℕ) → span_of b r s ≡ span_step b r s
  span_known s = span_call b r s ∙ ap (λ (n : ℕ). checked n r (span_step b r s)) passed

  pub gap_known : gap_of b r ≡ gap_step b r
  gap_known = gap_call b r ∙ ap (λ (n : ℕ). checked n r (gap_step b r)) passed

  -- and a question is told what was asked
  pub questions_known : (verdict_of b r ≡ told (verdict_at (table_of b) (pairs_of b r)))
      × (settled_of b r ≡ told (settled_at (table_of b) (pairs_of b r))) × (count_of b r ≡ told (needed b (pairs_of b r)))
  unfolding verdict_of settled_of count_of
  questions_known = (rw passed, rw passed, rw passed)

-- ---- a letter, where they passed

letters_read : (b : List ℕ) (h : Head) → h ≡ head_of b → h.letters ≡ (table_of b).letters
unfolding table_of
letters_read b h e = ap (λ (x : Head). x.letters) e

module _ (b : List ℕ) (r : Record) (a : ℕ) (h : Head) (head : h ≡ head_of b) where
  pub letter_unknown : h.letters ≤ a → refusal 9 r ≡ letter_step b r a
  unfolding letter_step
  letter_unknown l = rw (le-leb (table_of b).letters a (omega (arith, letters_read b h head)))

  -- as code asks: what was built of the pairs after the letter
  module _ (H : ℕ) (k : Known b H r) (next : Record)
      (built : next ≡ built_of r.room H (step_pairs (table_of b) (letter a) (pairs_at H r))) (l : a < h.letters) where
    borne : leb (table_of b).letters a ≡ false
    borne = lt-leb (table_of b).letters a (omega (arith, letters_read b h head))

    moved : next ≡ built_of r.room (horizon (table_of b)) (stepped b r (letter a))
    moved = subst (λ (h : ℕ). next ≡ built_of r.room h (step_pairs (table_of b) (letter a) (pairs_at h r))) k.reach built

    wants : (r.room < next.count) ↔ (r.room < needed b (stepped b r (letter a)))
    wants = rw moved (built-over r.room (horizon (table_of b)) (stepped b r (letter a)) k.proper.room_high)

    pub letter_over : r.room < next.count → refusal 11 r ≡ letter_step b r a
    unfolding letter_step
    letter_over o = rw (borne, lt-ltb r.room (needed b (stepped b r (letter a))) (wants.0 o))

    pub letter_fits : next.count ≤ r.room → accepted next ≡ letter_step b r a
    unfolding letter_step
    letter_fits o =
        rw (borne, le-ltb r.room (needed b (stepped b r (letter a))) fits)
        (ap accepted (moved ∙ built-fits r.room (horizon (table_of b)) _ fits))
      where
        fits : needed b (stepped b r (letter a)) ≤ r.room
        fits = go (dec_le (needed b (stepped b r (letter a))) r.room)
          where
            go : Dec (needed b (stepped b r (letter a)) ≤ r.room) → needed b (stepped b r (letter a)) ≤ r.room
            go (yes w) = w
            go (no w) = absurd (omega (arith, wants.1 (omega arith)))

-- ---- a span, where they passed

module _ (b : List ℕ) (r : Record) (s : ℕ) where
  abbrev bad : Bool
  bad = eqb s 0 || ltb 2147483647 s

  pub span_bad : false ≡ not bad → refusal 10 r ≡ span_step b r s
  unfolding span_step
  span_bad e = rw (not-false bad (sym e))

  pub span_good : true ≡ not bad → (1 ≤ s) × (s ≤ 2147483647)
  span_good e = (not_zero s or at_most 2147483647 s).iff.0 (λ t. true≢false (sym (is_true bad t) ∙ not-true bad (sym e)))

  -- as code asks: the record that after_span hands back
  pub span_passes : (H : ℕ) → Known b H r → (next : Record) → next ≡ record_of r.room H (span_pairs H s (pairs_at H r))
      → 1 ≤ s → s ≤ 2147483647 → accepted next ≡ span_step b r s
  unfolding span_step
  span_passes H k next e l u =
      rw (ne_eqb s 0 (λ z. omega arith), le-ltb 2147483647 s u) (ap accepted (moved ∙ same))
    where
      T : Table
      T = table_of b

      moved : next ≡ record_of r.room (horizon T) (span_pairs (horizon T) s (pairs_at (horizon T) r))
      moved = subst (λ (h : ℕ). next ≡ record_of r.room h (span_pairs h s (pairs_at h r))) k.reach e

      same : record_of r.room (horizon T) (span_pairs (horizon T) s (pairs_at (horizon T) r))
          ≡ holding b r.room (stepped b r (span s))
      same = ap (record_of r.room (horizon T)) (span_stepped T s (pairs_at (horizon T) r))

-- ---- a gap, where they passed

pub gap_held : (b : List ℕ) (H : ℕ) (r : Record) → Known b H r → (next : Record)
    → next ≡ record_of r.room H (gap_pairs (table_of b)) → accepted next ≡ gap_step b r
unfolding gap_step
gap_held b H r k next e = ap accepted (e ∙ ap (λ (h : ℕ). record_of r.room h (gap_pairs (table_of b))) k.reach)
