-- `calls::gap_step` meets its contract: the record of a gap, in the room of the one handed in. Assumes nothing.
use Rattle.known.proofs.Laws.{known_of}
use Rattle.calls.proofs.Steps.{gap_held}
use Rattle.calls.proofs.gap_step.Goals as goal

pub at_gap-requires-clause-room_low : goal.at_gap-requires-clause-room_low
at_gap-requires-clause-room_low c = (known_of c.args.known.now).proper.room_low

pub at_gap-requires-clause-room_high : goal.at_gap-requires-clause-room_high
at_gap-requires-clause-room_high c = (known_of c.args.known.now).proper.room_high

pub returns : goal.returns
returns c =
    let k = c.args.known.now in
    gap_held _ k.horizon k.held (known_of k) _ c.at_gap.ensures
