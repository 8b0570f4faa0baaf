-- The three demands hold: `demand_1` of every table and record, `demand_2` and `demand_3` of every stream; and no yes and no no
-- is false, however much was lost (`never_false`). On the way: there are streams (`stream_begins`), and their records pass the
-- checks and hold their stretches (`stream_passes`, `stream_holds`). Assumes nothing.
use Prim.Native.Nat.{ℕ, ◌-◌}
use Rattle.std.proofs.Common.{Ok, Err}
use mathlib.Core.Path.{◌≡◌, refl, sym, ap, ◌∙◌, subst}
use mathlib.Core.Logic.Iff
use mathlib.Core.Logic.{◌↔◌, ◌≢◌}
use mathlib.Core.List.{List, Memᴰ}
use mathlib.Core.Bool.{Bool, true, false}
use lib.Dec.{T as Is}
use lib.ListN.{length, replicate}
use lib.Seq.{take-append_seam}
use Rattle.base.proofs.Tests.{is_true, is_false}
use Rattle.meaning.specs.Tables.{Table, table_of, horizon}
use Rattle.meaning.specs.Runs.{letter, Word, empty, ◌⧺◌, Accepted}
use Rattle.meaning.specs.Sets.{Confs, after, Accepts, Initial, Over}
use Rattle.meaning.proofs.Runs.{accepted-iff}
use Rattle.meaning.proofs.Sets.{after-closed, initial-over, after-joined}
use Rattle.faults.proofs.Laws.{sound-closed}
use Rattle.faults.specs.declared.Fault.{Fault}
use Rattle.record.specs.declared.Stretch.{Stretch}
use Rattle.record.specs.declared.Record.{Record}
use Rattle.record.specs.Pairs.{Pairs}
use Rattle.record.specs.Verdicts.{Verdict, verdict_at, settled_at}
use Rattle.record.specs.Stretches.{stretches_of}
use Rattle.record.specs.Records.{blank, record_of}
use Rattle.record.proofs.Longest.{stretches_longest}
use Rattle.record.proofs.Records.{canon_record}
use Rattle.record.proofs.Verdicts.{start_yes, start_no, start_sure, gap_yes, gap_no, gap_unsure, gap_differ, gap_settled}
use Rattle.verdicts.specs.declared.Verdict.{Verdict as Case}
use Rattle.verdicts.specs.declared.Verdict.TheVariants.{Yes, No, Unsure}
use Rattle.verdicts.specs.Said.{verdict_case}
use Rattle.calls.specs.declared.Answer.{Answer}
use Rattle.calls.specs.Calls.{pairs_of, holding, stepped, record_fault, start_of, letter_of, span_of, gap_of, told, reply_number, reply, verdict_of, settled_of, count_of, verdict_reply, settled_reply, VerdictReply, SettledReply}
use Rattle.calls.proofs.Laws.{record_fault-iff, letter_next, call-numbers, start_refused, letter_refused, span_refused, gap_refused, reply-number, count_held}
use Rattle.calls.proofs.Promises.{not_both, same-value, verdict_reply-one, settled_reply-one, count_reply-one}
use Rattle.demands.specs.Order.{Check, AllPass, Answers}
use Rattle.demands.specs.Refusals.{StretchOf, start_checks, record_checks, letter_checks, span_checks}
use Rattle.demands.specs.Streams.{Since, the_start, a_gap, Stream, started}
use Rattle.demands.specs.Demands.{told-yes, told-no, told-unsure, Judged, HoldsStretches, Answered, Demand1, AsRunsSay, Demand2, FromEvery, FromNone, AsSetsSay, Demand3, Right, NeverFalse}
use Rattle.demands.proofs.Counting.{stretches_counted}
use Rattle.demands.proofs.Refusals.{start_answers, record_answers, letter_answers, span_answers}
use Rattle.demands.proofs.Streams.{Kept, stream_kept}

-- ---- demand 1

-- the record that holds the pairs f holds their stretches
holding-stretches : (b : List ℕ) (room : ℕ) (f : Pairs) → HoldsStretches b f (holding b room f)
unfolding record_of
holding-stretches b room f = record {
  places = λ x. subst (λ (M : List Stretch). Memᴰ x M ↔ StretchOf b f x)
      (sym (take-append_seam L (replicate (64 - length L) blank))) (stretches_longest H f x);
  count = stretches_counted H f;
}
  where
    H : ℕ
    H = horizon (table_of b)

    L : List Stretch
    L = stretches_of H f

-- an answer whose number is that of the checks
judged : (cs : List Check) (r : Record) (n : ℕ) (x : Answer) → Answers cs n → x.number ≡ n → (x.number ≢ 0 → x.next ≡ r)
    → Judged cs r x
judged cs r n x a e back = record { number = subst (Answers cs) (sym e) a; handed_back = back }

module _ (b : List ℕ) (r : Record) where
  replied : {A : Type 0} (v : A) → Answers (record_checks b r) (reply_number (reply (record_fault b r) v))
  replied v = subst (Answers (record_checks b r)) (sym (reply-number (record_fault b r) v)) (record_answers b r)

  answered : Answered b r
  unfolding verdict_of settled_of count_of
  answered = record {
    at_start = λ room x p. subst (Judged (start_checks b room) _) (sym p)
        (judged _ _ _ (start_of b room) (start_answers b room) (call-numbers b room r 0 0).0 (start_refused b room));
    at_letter = λ a x p. subst (Judged (letter_checks b r a) r) (sym p)
        (judged _ _ _ (letter_of b r a) (letter_answers b r a) (call-numbers b 0 r a 0).1 (letter_refused b r a));
    at_span = λ s x p. subst (Judged (span_checks b r s) r) (sym p)
        (judged _ _ _ (span_of b r s) (span_answers b r s) (call-numbers b 0 r 0 s).2 (span_refused b r s));
    at_gap = λ x p. subst (Judged (record_checks b r) r) (sym p)
        (judged _ _ _ (gap_of b r) (record_answers b r) (call-numbers b 0 r 0 0).3 (gap_refused b r));
    at_verdict = λ v p. subst (λ y. Answers (record_checks b r) (reply_number y)) (sym p) (replied _);
    at_settled = λ v p. subst (λ y. Answers (record_checks b r) (reply_number y)) (sym p) (replied _);
    at_count = λ v p. subst (λ y. Answers (record_checks b r) (reply_number y)) (sym p) (replied _);
    held = λ h whole. let passed = (record_fault-iff b r).0 ((record_answers b r).accepted.1 h) in
        subst (HoldsStretches b (pairs_of b r)) (canon_record (horizon (table_of b)) (table_of b).states r whole passed.1)
        (holding-stretches b r.room (pairs_of b r));
    told = λ h v p. count_reply-one v (Ok r.count) (p ∙ count_held b r ((record_answers b r).accepted.1 h));
    held_after = λ a x p z. subst (HoldsStretches b (stepped b r (letter a)))
        (sym (letter_next b r a (ap (λ (y : Answer). y.number) (sym p) ∙ z)) ∙ ap (λ (y : Answer). y.next) (sym p))
        (holding-stretches b r.room (stepped b r (letter a)));
  }

pub demand_1 : Demand1
demand_1 = answered

-- ---- streams begin, and their records never earn a number up to 8

module _ (b : List ℕ) where
  -- wherever the checks of a start pass, there is a stream
  pub stream_begins : (room : ℕ) → AllPass (start_checks b room) → Stream b the_start empty (start_of b room).next
  stream_begins room h = started room (start_of b room) refl
      (((demand_1 b (start_of b room).next).at_start room (start_of b room) refl).number.accepted.1 h)

  -- so a gap is never refused, a letter only with 9 or 11, and a span only with 10
  pub stream_passes : {e : Since} {w : Word} {r : Record} → Stream b e w r → AllPass (record_checks b r)
  stream_passes {r = r} h = let k = stream_kept b h in
      (record_answers b r).accepted.0 ((record_fault-iff b r).1 (k.sound, k.proper))

  -- after any calls the record holds and counts the stretches of its pairs
  pub stream_holds : {e : Since} {w : Word} {r : Record} → Stream b e w r → HoldsStretches b (pairs_of b r) r
  stream_holds {r = r} h = (demand_1 b r).held (stream_passes h) (stream_kept b h).whole

-- ---- what is told is what was asked

module _ (v : VerdictReply) (u : Verdict) (p : verdict_reply v ≡ told u) where
  told-case : (c : Case) → (v ≡ Ok c) ↔ (u ≡ verdict_case c)
  told-case c = (
    (λ e. sym (same-value (sym (ap verdict_reply e) ∙ p))),
    λ e. verdict_reply-one v (Ok c) (p ∙ ap told e),
  )

  verdict_told : (f : Fault) → v ≢ Err f
  verdict_told n e = not_both (sym (ap verdict_reply e) ∙ p)

module _ (s : SettledReply) (u : Bool) (p : settled_reply s ≡ told u) where
  told-bool : (c : Bool) → (s ≡ Ok c) ↔ (u ≡ c)
  told-bool c = (
    (λ e. sym (same-value (sym (ap settled_reply e) ∙ p))),
    λ e. settled_reply-one s (Ok c) (p ∙ ap told e),
  )

  settled_told : (f : Fault) → s ≢ Err f
  settled_told n e = not_both (sym (ap settled_reply e) ∙ p)

is_iff : (u : Bool) → (u ≡ true) ↔ Is u
is_iff u = ((λ e. subst Is (sym e) tt), is_true u)

not_is_iff : (u : Bool) → (u ≡ false) ↔ (¬ Is u)
not_is_iff u = ((λ e h. subst Is e h), is_false u)

-- ---- demands 2 and 3

module _ (b : List ℕ) where
  abbrev T : Table
  T = table_of b

  -- of the record of a stream a question is told what was asked
  asked : {e : Since} {w : Word} {r : Record} → Kept b e w r → {A : Type 0} (v : A) → reply (record_fault b r) v ≡ told v
  asked {r = r} k v = ap (λ (n : ℕ). reply n v) ((record_fault-iff b r).1 (k.sound, k.proper))

  as_runs_say : (w : Word) (r : Record) → Stream b the_start w r → (v : VerdictReply) → verdict_reply v ≡ verdict_of b r
      → AsRunsSay T w v
  unfolding verdict_of
  as_runs_say w r h v p =
      let k = stream_kept b h in
      let f = pairs_of b r in
      let tells = told-case v (verdict_at T f) (p ∙ asked k _) in
      record {
        yes = Iff.trans (tells Yes) (start_yes T w f k.means);
        no = Iff.trans (tells No) (start_no T w f k.means);
        never_unsure = λ e. start_sure T w f k.means ((tells Unsure).0 e);
        never_refused = verdict_told v (verdict_at T f) (p ∙ asked k _);
      }

  module _ (w : Word) (r : Record) (h : Stream b a_gap w r) where
    as_sets_say : (v : VerdictReply) → verdict_reply v ≡ verdict_of b r → (s : SettledReply) → settled_reply s ≡ settled_of b r
        → AsSetsSay T w v s
    unfolding verdict_of settled_of
    as_sets_say v p s q =
        let k = stream_kept b h in
        let f = pairs_of b r in
        let tells = told-case v (verdict_at T f) (p ∙ asked k _) in
        let settles = told-bool s (settled_at T f) (q ∙ asked k _) in
        let one = gap_settled T w f k.means in
        record {
          yes = Iff.trans (tells Yes) (gap_yes T w f k.means);
          no = Iff.trans (tells No) (gap_no T w f k.means);
          unsure = Iff.trans (tells Unsure) (gap_unsure T w f k.means);
          differ = Iff.trans (tells Unsure) (gap_differ T w f k.means);
          settled = Iff.trans (settles true) (Iff.trans (is_iff (settled_at T f)) one);
          left_open = Iff.trans (settles false) (Iff.trans (not_is_iff (settled_at T f)) (Iff.not one));
          never_refused = λ n. (
            verdict_told v (verdict_at T f) (p ∙ asked k _) n,
            settled_told s (settled_at T f) (q ∙ asked k _) n,
          );
        }

    -- all of u and then w, from the start on: what stood after u is one of the sets that may have stood at the gap's end
    all_of : (u : Word) → Accepted T (u ⧺ w) ↔ Accepts T (after T (after T (Initial T) u) w)
    all_of u = subst (λ (S : Confs). Accepted T (u ⧺ w) ↔ Accepts T S) (after-joined T (Initial T) u w) (accepted-iff T (u ⧺ w))

    stood : (u : Word) → Over T (after T (Initial T) u)
    stood u = let c = sound-closed b (stream_kept b h).sound in after-closed T c (Initial T) (initial-over T c) u

    right : (v : VerdictReply) → verdict_reply v ≡ verdict_of b r → Right b w v
    unfolding verdict_of
    right v p = record {
      yes_of_sets = every;
      no_of_sets = nowhere;
      yes_of_all = yes_of_all;
      no_of_all = no_of_all;
      as_with_nothing_lost = λ sure u s hs z q. same v (as_runs_say (u ⧺ w) s hs z q) (λ e. yes_of_all e u) (λ e. no_of_all e u)
          (verdict_told v (verdict_at T f) known) sure;
    }
      where
        k : Kept b a_gap w r
        k = stream_kept b h

        f : Pairs
        f = pairs_of b r

        known : verdict_reply v ≡ told (verdict_at T f)
        known = p ∙ asked k _

        every : v ≡ told-yes → FromEvery T w
        every e = (gap_yes T w f k.means).0 ((told-case v (verdict_at T f) known Yes).0 e)

        nowhere : v ≡ told-no → FromNone T w
        nowhere e = (gap_no T w f k.means).0 ((told-case v (verdict_at T f) known No).0 e)

        yes_of_all : v ≡ told-yes → (u : Word) → Accepted T (u ⧺ w)
        yes_of_all e u = (all_of u).1 (every e (after T (Initial T) u) (stood u))

        no_of_all : v ≡ told-no → (u : Word) → ¬ Accepted T (u ⧺ w)
        no_of_all e u a = nowhere e (after T (Initial T) u) (stood u) ((all_of u).0 a)

        -- two verdicts that speak of one word
        same : (v : VerdictReply) {x : Word} {z : VerdictReply} → AsRunsSay T x z → (v ≡ told-yes → Accepted T x)
            → (v ≡ told-no → ¬ Accepted T x) → ((f : Fault) → v ≢ Err f) → v ≢ told-unsure → v ≡ z
        same (Err n) d y m t s = absurd (t n refl)
        same (Ok Yes) d y m t s = sym (d.yes.1 (y refl))
        same (Ok No) d y m t s = sym (d.no.1 (m refl))
        same (Ok Unsure) d y m t s = absurd (s refl)

pub demand_2 : Demand2
demand_2 = as_runs_say

pub demand_3 : Demand3
demand_3 b w r h v p s q = as_sets_say b w r h v p s q

pub never_false : NeverFalse
never_false b w r h v p = right b w r h v p
