-- `calls::check_start` asks what `start_fault` asks, in its order. Assumes nothing.
use mathlib.Core.Path.{refl}
use Rattle.std.proofs.lemmas.Result.{err_from_is_err_and}
use Rattle.base.proofs.Rules.{checks, stops_at, goes_past}
use Rattle.faults.proofs.Numbered.{number-some}
use Rattle.calls.specs.Calls.{start_fault}
use Rattle.calls.proofs.check_start.Goals as goal

pub returns-in_err-check_table : goal.returns-in_err-check_table
unfolding start_fault
returns-in_err-check_table c =
    let p = err_from_is_err_and c.from_residual.result c.from_residual.ensures.1 in
    rw (p.1, p.2) (stops_at _ _ _ c.in_err-check_table.ensures.number (number-some _))

pub returns-then-not-is_room : goal.returns-then-not-is_room
unfolding start_fault
returns-then-not-is_room c = goes_past 8 0 _ _ c.in_ok-check_table.ensures.number refl (search checks)

pub returns : goal.returns
unfolding start_fault
returns c = goes_past 0 0 _ _ c.in_ok-check_table.ensures.number refl (search checks)
