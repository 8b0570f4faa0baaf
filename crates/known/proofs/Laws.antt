-- What the checks 1 to 8 tell: all of it, from what a `Known` of the code keeps (`known-by`, `known_of`) and back (`sound-kept`,
-- `proper-kept`); and of it `known-horizon`, `proper-held`, `known-few`, `known-place`. Assumes nothing.
use Prim.Native.Nat.{ℕ, ◌≤◌, ◌<◌}
use mathlib.Core.Path.{◌≡◌, sym, subst}
use mathlib.Core.List.{List}
use mathlib.Core.Bool.{true}
use native.Mathlib.Omega.{arith}
use lib.Dec.{T as Is}
use Rattle.base.proofs.Tests.{is_true}
use Rattle.table.specs.declared.Head.{Head}
use Rattle.table.specs.Table.{head_of}
use Rattle.meaning.specs.Tables.{table_of, horizon}
use Rattle.faults.specs.Faults.{table_fault}
use Rattle.faults.proofs.Laws.{sound-iff, sound-horizon}
use Rattle.record.specs.declared.Stretch.{Stretch}
use Rattle.record.specs.declared.Record.{Record}
use Rattle.record.specs.Records.{place, Proper, properb}
use Rattle.record.proofs.Properness.{proper-iff}
use Rattle.known.specs.Known.{Known}
use Rattle.known.specs.declared.Known.{Known as Watch}

pub known-by : (b : List ℕ) (h : Head) (H : ℕ) (r : Record) → table_fault b ≡ 0 → h ≡ head_of b → H ≡ horizon (table_of b)
    → properb H h.states r ≡ true → Known b H r
unfolding table_of
known-by b h H r sound headed reach proper =
    record {
      sound = (sound-iff b).0 sound;
      reach = reach;
      proper = (proper-iff H (head_of b).states r).0 (subst Is (sym (rw headed at proper)) tt);
    }

-- the code's own
pub known_of : (k : Watch) → Known k.table.bytes.now k.horizon k.held
known_of k = known-by _ _ _ _ k.table.sound k.table.headed k.reach k.proper

-- and back: what is known is what such a watch keeps
pub sound-kept : (b : List ℕ) (H : ℕ) (r : Record) → Known b H r → table_fault b ≡ 0
sound-kept b H r k = (sound-iff b).1 k.sound

pub proper-kept : (b : List ℕ) (h : Head) (H : ℕ) (r : Record) → h ≡ head_of b → Known b H r → properb H h.states r ≡ true
unfolding table_of
proper-kept b h H r headed k = rw headed (is_true _ ((proper-iff H (head_of b).states r).1 k.proper))

module _ (b : List ℕ) (H : ℕ) (r : Record) (k : Known b H r) where
  pub known-horizon : H ≤ 31622400
  known-horizon = rw k.reach (sound-horizon b k.sound)

  pub proper-held : Proper (horizon (table_of b)) (table_of b).states r
  proper-held = subst (λ (h : ℕ). Proper h (table_of b).states r) k.reach k.proper

  pub known-few : r.count ≤ 64
  known-few = omega (arith, k.proper.fits, k.proper.room_high)

  -- as code reads it: a place in use has its ages in order, and no age whose next would not fit
  pub known-place : (i : ℕ) (x : Stretch) → i < r.count → x ≡ place r i → (x.first ≤ x.last) × (x.last < 4294967295)
  known-place i x l e = let here = k.proper.each i l in
      rw e (here.order, omega (arith, here.within, known-horizon))
