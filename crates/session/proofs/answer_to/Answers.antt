-- `session::answer_to` takes the steps under the calls' checks, and answers as the calls do. Assumes nothing.
use Rattle.known.proofs.Laws.{known_of}
use Rattle.session.proofs.Laws.{letter_answered, span_answered, gap_answered}
use Rattle.session.proofs.answer_to.Goals as goal

pub returns-in-Letter : goal.returns-in-Letter
returns-in-Letter c =
    let k = c.args.known.now in
    letter_answered _ k.horizon k.held (known_of k) _ c.args.symbol _ c.in-Letter.is c.letter_step.ensures

pub returns-in-Span : goal.returns-in-Span
returns-in-Span c =
    let k = c.args.known.now in
    span_answered _ k.horizon k.held (known_of k) _ c.args.symbol _ c.in-Span.is c.span_step.ensures

pub returns-in-Gap : goal.returns-in-Gap
returns-in-Gap c =
    let k = c.args.known.now in
    gap_answered _ k.horizon k.held (known_of k) _ c.args.symbol c.in-Gap.is c.gap_step.ensures
