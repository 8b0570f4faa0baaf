-- `session::put_entries`: what is written, with the lines of the entries that are left, is the whole (`Going`); each turn goes
-- on by two places at least. Assumes nothing.
use Prim.Native.Nat.{◌-◌}
use mathlib.Core.Path.{◌≡◌}
use lib.ListN.{length}
use Rattle.session.specs.Sessions.{entries_from}
use Rattle.session.proofs.Turn.{Going}
use Rattle.session.proofs.put_entries.Given as goal

abbrev pub invariant-loop-reader : goal.invariant-loop-reader
invariant-loop-reader l =
    (l.reader.src ≡ l.initial.reader.src) × (l.known.table.bytes.now ≡ l.initial.known.table.bytes.now)
    × Going l.initial.known.table.bytes.now l.s l.initial.lines
    (entries_from l.initial.known.table.bytes.now l.s l.from l.initial.known.held)
    l.known.held l.reader.at l.ordinal l.lines

abbrev pub decreases-loop-reader : goal.decreases-loop-reader
decreases-loop-reader l = length l.s - l.reader.at
