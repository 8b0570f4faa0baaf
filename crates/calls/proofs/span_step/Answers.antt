-- `calls::span_step` meets its contract: 10, or the record after the span; no sum wraps, as H is at most a year. Assumes nothing.
use mathlib.Core.Path.{◌∙◌}
use native.Mathlib.Omega.{arith}
use Rattle.known.proofs.Laws.{known_of, known-horizon}
use Rattle.calls.proofs.Steps.{span_bad, span_good, span_passes}
use Rattle.calls.proofs.span_step.Goals as goal

pub returns-then-not-is_span : goal.returns-then-not-is_span
returns-then-not-is_span c = c.refused.ensures ∙ span_bad _ _ c.args.seconds c.if-not-is_span.ensures

pub after_span-requires-clause-proper : goal.after_span-requires-clause-proper
after_span-requires-clause-proper c = (_, (known_of c.args.known.now).proper)

pub after_span-requires-clause-ages_fit : goal.after_span-requires-clause-ages_fit
after_span-requires-clause-ages_fit c =
    let k = c.args.known.now in
    omega (arith, known-horizon _ _ _ (known_of k), span_good k.table.bytes.now k.held c.args.seconds c.if-not-is_span.ensures)

pub returns : goal.returns
returns c =
    let k = c.args.known.now in
    let good = span_good k.table.bytes.now k.held c.args.seconds c.if-not-is_span.ensures in
    span_passes _ k.held c.args.seconds k.horizon (known_of k) _ c.after_span.ensures good.0 good.1
