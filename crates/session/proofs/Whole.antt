-- The start's line and the entries' lines, together (`begun_refused`, `begun_accepted`), are the session's text (`in_frame`,
-- `unframed`), which settles what is printed (`session_settles`). Assumes nothing.
use Prim.Native.Nat.{ℕ, ◌+◌}
use mathlib.Core.Path.{◌≡◌, refl, sym, ap, ◌∙◌}
use mathlib.Core.Logic.{◌≢◌}
use mathlib.Core.List.{List, ◌++◌, append-nil}
use mathlib.Core.Bool.{true, false}
use native.Mathlib.Omega.{arith}
use lib.ListN.{length, take}
use borrow.Author.Tests.{ne_eqb}
use Rattle.table.specs.Numbers.{byte}
use Rattle.record.specs.declared.Record.{Record}
use Rattle.calls.specs.declared.Answer.{Answer}
use Rattle.calls.specs.Calls.{accepted, start_of}
use Rattle.text.specs.declared.Lines.{Lines}
use Rattle.text.specs.Text.{refusal_text, Adds}
use Rattle.session.specs.Sessions.{framed, table_in, held_text, answer_text, entries_from, begun_text, started_text, session_of}
use Rattle.session.specs.Ready.{Begins, Ready}
use Rattle.session.proofs.Laws.{answer-refused, answer-length, table-length}

-- ---- the start, as code takes it

module _ (b s : List ℕ) (room from : ℕ) where
  begun : (a : Answer) → a ≡ start_of b room → (text : List ℕ) → text ≡ begun_text b s from a → text ≡ started_text b s room from
  begun a started text e = e ∙ ap (begun_text b s from) started

  pub begun_refused : (a : Answer) → a ≡ start_of b room → a.number ≢ 0 → refusal_text 0 a.number ≡ started_text b s room from
  unfolding begun_text
  begun_refused a started n = begun a started _ text
    where
      text : refusal_text 0 a.number ≡ begun_text b s from a
      text = rw (ne_eqb a.number 0 n) (sym (append-nil (answer_text b 0 a) ∙ answer-refused b 0 a n))

  pub begun_accepted : (r : Record) → accepted r ≡ start_of b room
      → held_text b 0 r ++ entries_from b s from r ≡ started_text b s room from
  unfolding begun_text answer_text
  begun_accepted r started = begun (accepted r) started _ refl

-- behind the start's line there is room for the entries'
pub begun_ready : (b s : List ℕ) (from : ℕ) (a : Answer) (before mid : Lines)
    → Begins s from (length before.out.now) → before.at ≡ 0 → Adds before (answer_text b 0 a) mid
    → Ready s from mid.at (length mid.out.now)
begun_ready b s from a before mid begins empty w = record {
  short = begins.short;
  behind = begins.behind;
  within = begins.within;
  fits = omega (
    arith,
    begins.short,
    begins.behind,
    begins.within,
    begins.roomy,
    empty,
    w.same_length,
    w.wrote.0,
    answer-length b 0 a,
  );
}

-- ---- the whole

module _ (s : List ℕ) where
  -- as code cuts it: b is the table, and the entries begin behind it
  pub in_frame : framed s ≡ true → (b : List ℕ) → b ≡ table_in s
      → started_text b s (byte s 1) (2 + length b) ≡ session_of s
  unfolding session_of
  in_frame e b t = rw (e, t, table-length s e)

  pub unframed : framed s ≡ false → refusal_text 0 12 ≡ session_of s
  unfolding session_of
  unframed e = rw e

-- two results that meet the session's promise are the same: as many bytes, and the same ones
pub session_settles : (s x y : List ℕ) (m n : ℕ)
    → (take m x ≡ session_of s) × (m ≡ length (session_of s)) → (take n y ≡ session_of s) × (n ≡ length (session_of s))
    → (m ≡ n) × (take m x ≡ take n y)
session_settles s x y m n v w = (v.1 ∙ sym w.1, v.0 ∙ sym w.0)
