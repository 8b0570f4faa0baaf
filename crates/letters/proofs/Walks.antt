-- The pieces of a stretch, one after another: those before are done (`Walked`), and the next begins where they end
-- (`piece_next`, `walk_on`), until no age is left (`walk_end`). Assumes nothing.
use Prim.Native.Nat.{suc, ◌≤◌, ◌<◌}
use mathlib.Core.Path.{◌≡◌, refl, ◌∙◌}
use native.Mathlib.Omega.{arith}
use Rattle.meaning.specs.Tables.{table_of}
use Rattle.record.specs.declared.Stretch.{Stretch}
use Rattle.image.specs.Images.{up_to, piece_of}
use Rattle.image.proofs.Laws.{piece_within}
use Rattle.letters.specs.declared.Pieces.{Pieces}
use Rattle.letters.specs.Pieces.{SameWalk, GivesFirst}

-- the pieces of s that come before those of t are done
pub record Walked (s t : Pieces) : Type 0 where
  pub same : SameWalk s t
  pub low : s.rest.first ≤ t.rest.first
  pub high : t.rest.first ≤ suc s.rest.last

-- so is a piece more: it begins where those before it end
module _ (s t u : Pieces) (x : Stretch) (w : Walked s t) (g : GivesFirst t x u) where
  pub piece_next : up_to x.last x.pair
      ≡ piece_of (table_of s.table.now.bytes.now) s.reset s.letter t.rest.first s.rest.last s.rest.pair
  piece_next = rw (w.same.table, w.same.reset, w.same.letter, w.same.last, w.same.pair) at g.led

  walk_within : (t.rest.first ≤ x.last) × (x.last ≤ s.rest.last)
  walk_within = piece_within (table_of s.table.now.bytes.now) s.reset s.letter t.rest.first s.rest.last s.rest.pair _ piece_next
      (rw w.same.last at g.some)

  pub walk_on : Walked s u
  walk_on =
      record {
        same = record {
          table = g.same.table ∙ w.same.table;
          reset = g.same.reset ∙ w.same.reset;
          letter = g.same.letter ∙ w.same.letter;
          last = g.same.last ∙ w.same.last;
          pair = g.same.pair ∙ w.same.pair;
        };
        low = omega (arith, w.low, walk_within.0, g.next);
        high = omega (arith, walk_within.1, g.next);
      }

pub walk_begun : (s : Pieces) → s.rest.first ≤ suc s.rest.last → Walked s s
walk_begun s l =
    record {
      same = record { table = refl; reset = refl; letter = refl; last = refl; pair = refl };
      low = omega arith;
      high = l;
    }

pub walk_end : (s t : Pieces) → Walked s t → t.rest.last < t.rest.first → t.rest.first ≡ suc s.rest.last
walk_end s t w l = omega (arith, w.high, w.same.last)
