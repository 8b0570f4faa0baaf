-- The entries one by one, as code takes them (`Going`): so much is written, and with the lines of the entries that are left it
-- is the whole (`going_begun`). An entry that is read moves its line over (`going_on`); one that is not ends it
-- (`going_unread`), and so does the end of the input (`going_over`). Before that, the lines of the entries by themselves, of
-- which enough are allowed for (`entries_enough`). Assumes nothing.
use Prim.Native.Nat.{ℕ, zero, suc, ◌+◌, ◌-◌, ◌*◌, ◌≤◌, ◌<◌}
use mathlib.Core.Path.{◌≡◌, refl, sym, ap, ◌∙◌, subst}
use mathlib.Core.List.{List, [], ◌++◌, append-nil, append_assoc}
use native.Mathlib.Decide.{dec_le}
use native.Mathlib.Omega.{arith}
use lib.ListN.{length, take}
use borrow.Author.Tests.{lt-ltb, le-ltb}
use Rattle.record.specs.declared.Record.{Record}
use Rattle.std.specs.Prelude.{Option, Some, None}
use Rattle.entries.specs.declared.Entry.{Entry}
use Rattle.entries.specs.Entries.{read_at}
use Rattle.entries.proofs.Laws.{read_onward}
use Rattle.text.specs.declared.Lines.{Lines}
use Rattle.text.specs.Text.{refusal_text, Adds}
use Rattle.text.proofs.Laws.{adds_then}
use Rattle.session.specs.Sessions.{call_of, answer_text, entries_text, entries_from}
use Rattle.session.specs.Ready.{Ready}
use Rattle.session.proofs.Laws.{answer-length}

-- ---- the lines of the entries

module _ (b s : List ℕ) (at ordinal : ℕ) (r : Record) where
  pub entries_none : (most : ℕ) → length s ≤ at → entries_text b s most at ordinal r ≡ []
  unfolding entries_text
  entries_none zero l = refl
  entries_none (suc most) l = rw (le-ltb at (length s) l)

  module _ (most : ℕ) (l : at < length s) where
    pub entries_unread : read_at s at ordinal ≡ None → entries_text b s (suc most) at ordinal r ≡ refusal_text ordinal 12
    unfolding entries_text
    entries_unread e = rw (lt-ltb at (length s) l, e)

    pub entries_got : (e : Entry) (next : ℕ) → read_at s at ordinal ≡ Some (e, next)
        → entries_text b s (suc most) at ordinal r
        ≡ answer_text b e.ordinal (call_of b r e.symbol)
        ++ entries_text b s most next (suc e.ordinal) (call_of b r e.symbol).next
    unfolding entries_text
    entries_got e next h = rw (lt-ltb at (length s) l, h)

-- the lines are the same, however many entries are allowed for, if no fewer than there are bytes left
pub entries_enough : (b s : List ℕ) (m n at ordinal : ℕ) (r : Record) → length s ≤ at + m → length s ≤ at + n
    → entries_text b s m at ordinal r ≡ entries_text b s n at ordinal r
entries_enough b s zero n at ordinal r l k =
    let over : length s ≤ at = omega (arith, l) in
    entries_none b s at ordinal r zero over ∙ sym (entries_none b s at ordinal r n over)
entries_enough b s (suc m) zero at ordinal r l k =
    let over : length s ≤ at = omega (arith, k) in
    entries_none b s at ordinal r (suc m) over ∙ sym (entries_none b s at ordinal r zero over)
entries_enough b s (suc m) (suc n) at ordinal r l k =
    go (entries_enough b s m n) (dec_le (length s) at)
  where
    Further : Type 0
    Further = (at ordinal : ℕ) (r : Record) → length s ≤ at + m → length s ≤ at + n
        → entries_text b s m at ordinal r ≡ entries_text b s n at ordinal r

    by_read : Further → at < length s → (x : Option (Entry × ℕ)) → read_at s at ordinal ≡ x
        → entries_text b s (suc m) at ordinal r ≡ entries_text b s (suc n) at ordinal r
    by_read further more None e = entries_unread b s at ordinal r m more e ∙ sym (entries_unread b s at ordinal r n more e)
    by_read further more (Some (x, next)) e =
        let onward = read_onward s at ordinal x next e in
        let called = call_of b r x.symbol in
        let rest = further next (suc x.ordinal) called.next (omega (arith, l, onward.0)) (omega (arith, k, onward.0)) in
        entries_got b s at ordinal r m more x next e
        ∙ ap (λ (w : List ℕ). answer_text b x.ordinal called ++ w) rest
        ∙ sym (entries_got b s at ordinal r n more x next e)

    go : Further → Dec (length s ≤ at) → entries_text b s (suc m) at ordinal r ≡ entries_text b s (suc n) at ordinal r
    go further (yes w) = entries_none b s at ordinal r (suc m) w ∙ sym (entries_none b s at ordinal r (suc n) w)
    go further (no w) = by_read further (omega arith) (read_at s at ordinal) refl

-- ---- a turn

-- of the text `whole`, which goes behind the lines that were `before`, `done` is written, and r is held
pub record Going (b s : List ℕ) (before : Lines) (whole : List ℕ) (r : Record) (at ordinal : ℕ) (lines : Lines) : Type 0 where
  pub most : ℕ
  pub done : List ℕ
  pub enough : length s ≤ at + most
  pub short : length s ≤ 32768
  pub within : at ≤ length s
  pub counted : 2 * ordinal ≤ at
  pub fits : 2 * lines.at + 27 * (length s - at) + 27 ≤ 2 * length lines.out.now
  pub wrote : Adds before done lines
  pub rest : done ++ entries_text b s most at ordinal r ≡ whole

-- nothing was written yet
adds_none : (lines : Lines) → Adds lines [] lines
adds_none lines = record {
  same_buffer = refl;
  same_length = refl;
  wrote = (omega arith, sym (append-nil (take lines.at lines.out.now)));
}

-- the first turn
pub going_begun : (b s : List ℕ) (lines : Lines) (r : Record) (from : ℕ) → Ready s from lines.at (length lines.out.now)
    → Going b s lines (entries_from b s from r) r from 1 lines
going_begun b s lines r from ready = record {
  most = length s;
  done = [];
  enough = omega arith;
  short = ready.short;
  within = ready.within;
  counted = ready.behind;
  fits = ready.fits;
  wrote = adds_none lines;
  rest = refl;
}

module _ {b s : List ℕ} {before : Lines} {whole : List ℕ} {r : Record} {at ordinal : ℕ} {lines : Lines}
    (g : Going b s before whole r at ordinal lines) where
  -- the input is used up
  pub going_over : length s ≤ at → Adds before whole lines
  going_over l = subst (λ (w : List ℕ). Adds before w lines) all g.wrote
    where
      all : g.done ≡ whole
      all =
          sym (append-nil g.done)
          ∙ sym (ap (λ (w : List ℕ). g.done ++ w) (entries_none b s at ordinal r g.most l))
          ∙ g.rest

  -- as code asks: there is more, and it is read
  module _ (more : at < length s) {read : Option (Entry × ℕ)} (told : read ≡ read_at s at ordinal) where
    -- so one entry at least is left
    left : (n : ℕ) × (g.most ≡ suc n)
    left = go g.most g.enough
      where
        go : (m : ℕ) → length s ≤ at + m → (n : ℕ) × (m ≡ suc n)
        go zero l = absurd (let none : ⊥ = omega arith in none)
        go (suc m) l = (m, refl)

    begins : (text : List ℕ) → entries_text b s (suc left.0) at ordinal r ≡ text → g.done ++ text ≡ whole
    begins text e =
        ap (λ (w : List ℕ). g.done ++ w) (sym e)
        ∙ ap (λ (m : ℕ). g.done ++ entries_text b s m at ordinal r) (sym left.1)
        ∙ g.rest

    pub going_unread : {after : Lines} → read ≡ None → Adds lines (refusal_text ordinal 12) after → Adds before whole after
    going_unread {after} e w = subst (λ (t : List ℕ). Adds before t after)
        (begins (refusal_text ordinal 12) (entries_unread b s at ordinal r left.0 more (sym told ∙ e)))
        (adds_then g.wrote w)

    module _ {e : Entry} {next : ℕ} (got : read ≡ Some (e, next)) where
      onward : (at + 2 ≤ next) × (next ≤ length s) × (e.ordinal ≡ ordinal)
      onward = read_onward s at ordinal e next (sym told ∙ got)

      pub going_less : length s - next < length s - at
      going_less = omega (arith, onward.0, onward.1)

      pub going_on : {after : Lines} {held : Record} → Adds lines (answer_text b e.ordinal (call_of b r e.symbol)) after
          → held ≡ (call_of b r e.symbol).next
          → Going b s before whole held next (ordinal + 1) after
      going_on {after} {held} w same = record {
        most = left.0;
        done = g.done ++ line;
        enough = omega (arith, g.enough, left.1, onward.0);
        short = g.short;
        within = onward.1;
        counted = omega (arith, g.counted, onward.0);
        fits = omega (arith, g.fits, onward.0, onward.1, w.same_length, w.wrote.0, long);
        wrote = adds_then g.wrote w;
        rest = all;
      }
        where
          line : List ℕ
          line = answer_text b e.ordinal (call_of b r e.symbol)

          long : length line ≤ 27
          long = answer-length b e.ordinal (call_of b r e.symbol)

          as_held : line ++ entries_text b s left.0 next (suc e.ordinal) (call_of b r e.symbol).next
              ≡ line ++ entries_text b s left.0 next (suc e.ordinal) held
          as_held = ap (λ (x : Record). line ++ entries_text b s left.0 next (suc e.ordinal) x) (sym same)

          as_counted : line ++ entries_text b s left.0 next (suc e.ordinal) held
              ≡ line ++ entries_text b s left.0 next (ordinal + 1) held
          as_counted = ap (λ (k : ℕ). line ++ entries_text b s left.0 next k held) (omega (arith, onward.2))

          all : (g.done ++ line) ++ entries_text b s left.0 next (ordinal + 1) held ≡ whole
          all =
              append_assoc g.done _ _
              ∙ begins _ (entries_got b s at ordinal r left.0 more e next (sym told ∙ got) ∙ as_held ∙ as_counted)
