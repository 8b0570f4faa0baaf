-- `session::begin`: what a start tells of its table and its record is what a watch has to keep. Assumes nothing.
use Rattle.std.proofs.Common.{refl}
use Rattle.session.proofs.Laws.{start_known}
use Rattle.known.proofs.Laws.{sound-kept, proper-kept}
use Rattle.session.proofs.begin.Goals as goal

pub invariant_of-table : goal.invariant_of-table
invariant_of-table c =
    let known = start_known c.args.t.now c.args.room _ _ c.in_ok-held.ensures refl c.horizon_of.ensures in
    record { sound = sound-kept _ _ _ known; headed = c.head_of.ensures }

pub invariant_of-result : goal.invariant_of-result
invariant_of-result c =
    let known = start_known c.args.t.now c.args.room _ _ c.in_ok-held.ensures refl c.horizon_of.ensures in
    record { reach = c.horizon_of.ensures; proper = proper-kept _ _ _ _ c.head_of.ensures known }
