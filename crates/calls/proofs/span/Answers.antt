-- `calls::span` is its checks and its step. Assumes nothing.
use mathlib.Core.Path.{refl, sym, ◌∙◌}
use Rattle.faults.proofs.Numbered.{number-some}
use Rattle.calls.proofs.Steps.{span_call, call-refused, call-passed}
use Rattle.calls.proofs.span.Goals as goal

pub returns-in-Ok : goal.returns-in-Ok
returns-in-Ok c =
    let passed = c.in-Ok.ensures in
    let known = c.known.ensures in
    let step = rw (known.table, known.held, passed.table, passed.held) at c.span_step.ensures in
    call-passed _ _ c.args.r _ _ passed.number refl step ∙ sym (span_call c.args.t.now c.args.r c.args.seconds)

pub returns-in-Err : goal.returns-in-Err
returns-in-Err c =
    let failed = c.in-Err.ensures.number in
    c.refused.ensures ∙ call-refused _ _ c.args.r _ failed (number-some _) ∙ sym (span_call c.args.t.now c.args.r c.args.seconds)
