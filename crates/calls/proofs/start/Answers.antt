-- `calls::start` is its checks and its step. Assumes nothing.
use mathlib.Core.Path.{sym, refl, ◌∙◌}
use Rattle.std.proofs.Common.{rules}
use Rattle.faults.proofs.Numbered.{number-some}
use Rattle.calls.proofs.Laws.{start_fault-iff}
use Rattle.calls.proofs.Steps.{begin_refused, begin_passed}
use Rattle.calls.proofs.start.Goals as goal

pub at_start-requires-clause-room_low : goal.at_start-requires-clause-room_low
at_start-requires-clause-room_low c = ((start_fault-iff _ _).0 (sym c.in-Ok.ensures)).1.0

pub at_start-requires-clause-room_high : goal.at_start-requires-clause-room_high
at_start-requires-clause-room_high c = ((start_fault-iff _ _).0 (sym c.in-Ok.ensures)).1.1

pub returns-in-Ok : goal.returns-in-Ok
returns-in-Ok c = begin_passed c.args.t.now c.args.room 0 c.at_start.result c.in-Ok.ensures refl c.at_start.ensures

pub returns-in-Err : goal.returns-in-Err
returns-in-Err c =
    c.refused.ensures ∙ begin_refused c.args.t.now c.args.room _ c.empty.result c.in-Err.ensures (number-some _) (search rules)
