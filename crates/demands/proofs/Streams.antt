-- What the record of a stream is (`stream_kept`): proper for the table, with 64 places, and its pairs mean the two sets that
-- the start, or the last gap, has become after the symbols accepted since. Assumes nothing.
use Prim.Native.Nat.{ℕ, zero, suc}
use mathlib.Core.Path.{◌≡◌, refl, sym, ◌∙◌, subst}
use mathlib.Core.Logic.{◌≢◌}
use mathlib.Core.List.{List}
use native.Mathlib.Omega.{arith}
use lib.ListN.{length}
use Rattle.meaning.specs.Tables.{Table, table_of}
use Rattle.meaning.specs.Runs.{Symbol, letter, span, Word, empty, ◌▷◌}
use Rattle.meaning.specs.Sets.{Confs, after, Initial, Nothing, Everything}
use Rattle.faults.specs.Sound.{Sound}
use Rattle.record.specs.declared.Record.{Record}
use Rattle.record.specs.Pairs.{Pairs, start_pairs, gap_pairs}
use Rattle.record.proofs.Pairs.{MeanBoth, mean_cong, start_means, gap_means, steps_mean}
use Rattle.calls.specs.declared.Answer.{Answer}
use Rattle.calls.specs.Calls.{pairs_of, stepped, ProperFor, start_of, letter_of, span_of, gap_of}
use Rattle.calls.proofs.Laws.{Holds, start_fault-iff, call-numbers, start_holds, letter_holds, span_holds, gap_holds}
use Rattle.calls.proofs.Laws.{letter_refused, span_refused, gap_refused}
use Rattle.demands.specs.Streams.{Since, the_start, a_gap, heard, since_after_gap, word_after_gap, Stream, started, lettered, spanned, gapped}

-- the sure set and the possible one, as they stood when nothing was lost any more
abbrev pub sure_from : Table → Since → Confs
sure_from T the_start = Initial T
sure_from T a_gap = Nothing

abbrev pub possible_from : Table → Since → Confs
possible_from T the_start = Initial T
possible_from T a_gap = Everything T

pub record Kept (b : List ℕ) (e : Since) (w : Word) (r : Record) : Type 0 where
  pub sound : Sound b
  pub proper : ProperFor b r
  pub whole : length r.places ≡ 64
  pub means : MeanBoth (table_of b) (pairs_of b r) (after (table_of b) (sure_from (table_of b) e) w)
      (after (table_of b) (possible_from (table_of b) e) w)

module _ (b : List ℕ) where
  abbrev T : Table
  T = table_of b

  -- a record that holds the pairs f, which mean two sets
  held_means : (room : ℕ) (f : Pairs) (r : Record) (A B : Confs) → Holds b room f r → MeanBoth T f A B
      → MeanBoth T (pairs_of b r) A B
  held_means room f r A B h = mean_cong T f (pairs_of b r) A B (λ k l. sym (h.pairs k l))

  start_kept : (room : ℕ) → (start_of b room).number ≡ 0 → Kept b the_start empty (start_of b room).next
  unfolding after
  start_kept room z = record {
    sound = ((start_fault-iff b room).0 (sym (call-numbers b room (start_of b room).next 0 0).0 ∙ z)).0;
    proper = (start_holds b room z).proper;
    whole = (start_holds b room z).whole;
    means = held_means room (start_pairs T) _ (Initial T) (Initial T) (start_holds b room z) (start_means T);
  }

  module _ (e : Since) (w : Word) (r : Record) (k : Kept b e w r) where
    -- an accepted call hands back a record of pairs that mean two sets, a refused one the record that it was handed
    accepted-kept : (d : Since) (v : Word) (f : Pairs) (next : Record) → Holds b r.room f next
        → MeanBoth T f (after T (sure_from T d) v) (after T (possible_from T d) v) → Kept b d v next
    accepted-kept d v f next h means = record {
      sound = k.sound;
      proper = h.proper;
      whole = h.whole;
      means = held_means r.room f next _ _ h means;
    }

    refused_kept : (n : ℕ) (next : Record) → (suc n ≢ 0 → next ≡ r) → Kept b e w next
    refused_kept n next back = subst (Kept b e w) (sym (back (λ z. omega arith))) k

    symbol_kept : (y : Symbol) (x : Answer) → (x.number ≡ 0 → Holds b r.room (stepped b r y) x.next)
        → (x.number ≢ 0 → x.next ≡ r) → Kept b e (heard x.number w y) x.next
    unfolding after
    symbol_kept y x holds back = go x.number holds back
      where
        go : (n : ℕ) → (n ≡ 0 → Holds b r.room (stepped b r y) x.next) → (n ≢ 0 → x.next ≡ r)
            → Kept b e (heard n w y) x.next
        go zero holds back = accepted-kept e (w ▷ y) _ x.next (holds refl) (steps_mean T y (pairs_of b r) _ _ k.means)
        go (suc n) holds back = refused_kept n x.next back

    gap_kept : (x : Answer) → (x.number ≡ 0 → Holds b r.room (gap_pairs T) x.next) → (x.number ≢ 0 → x.next ≡ r)
        → Kept b (since_after_gap x.number e) (word_after_gap x.number w) x.next
    unfolding after
    gap_kept x holds back = go x.number holds back
      where
        go : (n : ℕ) → (n ≡ 0 → Holds b r.room (gap_pairs T) x.next) → (n ≢ 0 → x.next ≡ r)
            → Kept b (since_after_gap n e) (word_after_gap n w) x.next
        go zero holds back = accepted-kept a_gap empty _ x.next (holds refl) (gap_means T)
        go (suc n) holds back = refused_kept n x.next back

  pub stream_kept : {e : Since} {w : Word} {r : Record} → Stream b e w r → Kept b e w r
  stream_kept (started room x p z) =
      subst (λ (x : Answer). x.number ≡ 0 → Kept b the_start empty x.next) (sym p) (start_kept room) z
  stream_kept (lettered {e} {w} {r} before a x p) =
      subst (λ (x : Answer). Kept b e (heard x.number w (letter a)) x.next) (sym p)
      (symbol_kept e w r (stream_kept before) (letter a) (letter_of b r a) (letter_holds b r a) (letter_refused b r a))
  stream_kept (spanned {e} {w} {r} before s x p) =
      subst (λ (x : Answer). Kept b e (heard x.number w (span s)) x.next) (sym p)
      (symbol_kept e w r (stream_kept before) (span s) (span_of b r s) (span_holds b r s) (span_refused b r s))
  stream_kept (gapped {e} {w} {r} before x p) =
      subst (λ (x : Answer). Kept b (since_after_gap x.number e) (word_after_gap x.number w) x.next) (sym p)
      (gap_kept e w r (stream_kept before) (gap_of b r) (gap_holds b r) (gap_refused b r))
