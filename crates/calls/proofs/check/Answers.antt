-- `calls::check` meets its contract: the table's number comes first, then the record's. Assumes nothing.
use mathlib.Core.Path.{ap, ◌∙◌}
use Rattle.std.proofs.lemmas.Result.{err_from_is_err_and}
use Rattle.base.proofs.Rules.{checks, stops_at}
use Rattle.faults.proofs.Numbered.{number-some}
use Rattle.table.specs.Table.{head_of}
use Rattle.meaning.specs.Tables.{table_of}
use Rattle.calls.specs.Calls.{record_fault}
use Rattle.calls.proofs.Laws.{record_fault-on}
use Rattle.calls.proofs.check.Goals as goal

pub returns-in_err-table-clause-number : goal.returns-in_err-table-clause-number
unfolding record_fault
returns-in_err-table-clause-number c =
    let p = err_from_is_err_and c.from_residual.result c.from_residual.ensures.1 in
    rw (p.1, p.2) (stops_at _ _ _ c.in_err-table.ensures.number (number-some _))

pub returns-then-not-is_proper-clause-number : goal.returns-then-not-is_proper-clause-number
unfolding table_of
returns-then-not-is_proper-clause-number c =
    let passed = c.in_ok-table in
    let head = passed.table.headed ∙ ap (λ t. head_of t.now) passed.ensures.bytes in
    record_fault-on _ _ _ _ 8 passed.ensures.number c.horizon_of-horizon.ensures (ap (λ h. h.states) head) (search checks)

pub returns-clause-number : goal.returns-clause-number
unfolding table_of
returns-clause-number c =
    let passed = c.in_ok-table in
    let head = passed.table.headed ∙ ap (λ t. head_of t.now) passed.ensures.bytes in
    record_fault-on _ _ _ _ 0 passed.ensures.number c.horizon_of-horizon.ensures (ap (λ h. h.states) head) (search checks)
