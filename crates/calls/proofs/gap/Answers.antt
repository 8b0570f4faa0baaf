-- `calls::gap` is its checks and its step. Assumes nothing.
use mathlib.Core.Path.{refl, sym, ◌∙◌}
use Rattle.faults.proofs.Numbered.{number-some}
use Rattle.calls.proofs.Steps.{gap_call, call-refused, call-passed}
use Rattle.calls.proofs.gap.Goals as goal

pub returns-in-Ok : goal.returns-in-Ok
returns-in-Ok c =
    let passed = c.in-Ok.ensures in
    let known = c.known.ensures in
    let step = rw (known.table, known.held, passed.table, passed.held) at c.gap_step.ensures in
    call-passed _ _ c.args.r _ _ passed.number refl step ∙ sym (gap_call c.args.t.now c.args.r)

pub returns-in-Err : goal.returns-in-Err
returns-in-Err c =
    let failed = c.in-Err.ensures.number in
    c.refused.ensures ∙ call-refused _ _ c.args.r _ failed (number-some _) ∙ sym (gap_call c.args.t.now c.args.r)
