-- Sequences of the public calls, and the stream that they have followed (document 01, The record: "Demands 2 and 3 speak of one
-- table kept from a start on, and of the record that each call hands to the next."). Assumes nothing: these are definitions.
use Rattle.std.specs.Prelude.{ℕ, zero, suc, ◌≡◌, List}
use Rattle.meaning.specs.Runs.{Symbol, letter, span, Word, empty, ◌▷◌}
use Rattle.record.specs.declared.Record.{Record}
use Rattle.calls.specs.declared.Answer.{Answer}
use Rattle.calls.specs.Calls.{start_of, letter_of, span_of, gap_of}

-- since when nothing was lost: since the start, or since the last gap
pub data Since : Type 0 where
  the_start : Since
  a_gap : Since

-- the symbols w and then x, where its call answered with that number: "A refused symbol is not part of the stream."
abbrev pub heard : ℕ → Word → Symbol → Word
heard zero w x = w ▷ x
heard (suc n) w x = w

-- the same of a gap: from an accepted one on, nothing was lost since it, and no symbol was heard yet
abbrev pub since_after_gap : ℕ → Since → Since
since_after_gap zero e = a_gap
since_after_gap (suc n) e = e

abbrev pub word_after_gap : ℕ → Word → Word
word_after_gap zero w = empty
word_after_gap (suc n) w = w

-- calls on the table b, one after the other: an accepted start in any room, then letters, spans and gaps in any order, accepted
-- or refused, each with the record that the call before handed back. x is what was answered, and of it is known what the
-- contract of the call promises. So far, nothing was lost since e, the symbols w were accepted since then, and r was handed
-- back last
pub data Stream (b : List ℕ) : Since → Word → Record → Type 0 where
  started : (room : ℕ) (x : Answer) → x ≡ start_of b room → x.number ≡ 0
      → Stream b the_start empty x.next
  lettered : {e : Since} {w : Word} {r : Record} → Stream b e w r → (a : ℕ) (x : Answer) → x ≡ letter_of b r a
      → Stream b e (heard x.number w (letter a)) x.next
  spanned : {e : Since} {w : Word} {r : Record} → Stream b e w r → (s : ℕ) (x : Answer) → x ≡ span_of b r s
      → Stream b e (heard x.number w (span s)) x.next
  gapped : {e : Since} {w : Word} {r : Record} → Stream b e w r → (x : Answer) → x ≡ gap_of b r
      → Stream b (since_after_gap x.number e) (word_after_gap x.number w) x.next
