-- Before a stretch, `out` is built from the ages up to the end of the one before it.
use Rattle.std.proofs.Common.{◌≡◌, suc}
use Rattle.record.specs.Stretches.{newest}
use Rattle.record.specs.Building.{held_in}
use Rattle.letters.specs.Letters.{after_letter}
use Rattle.letters.proofs.Laws.{reached, Kept}
use Rattle.letters.proofs.after_letter.Given as goal

abbrev pub invariant-loop-x : goal.invariant-loop-x
invariant-loop-x l =
    let w = l.known in
    l.out ≡ held_in w.held.room (after_letter w.table.bytes.now w.horizon w.held l.letter (suc w.horizon))
    (newest (reached w.held l.x-index) (after_letter w.table.bytes.now w.horizon w.held l.letter))

abbrev pub invariant-loop-piece : goal.invariant-loop-piece
invariant-loop-piece l = Kept l.initial.piece-iterator l.piece-iterator l.initial.out l.out
