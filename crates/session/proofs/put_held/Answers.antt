-- `session::put_held`: a proper record says what the line tells. Assumes nothing.
use Rattle.known.proofs.Laws.{known_of, known-few, proper-held}
use Rattle.session.proofs.Laws.{as_told}
use Rattle.session.proofs.put_held.Goals as goal

pub verdict_of-verdict-requires : goal.verdict_of-verdict-requires
verdict_of-verdict-requires c =
    let k = c.args.known.now in
    (_, proper-held _ k.horizon k.held (known_of k))

pub is_settled-settled-requires : goal.is_settled-settled-requires
is_settled-settled-requires c =
    let k = c.args.known.now in
    known-few _ k.horizon k.held (known_of k)

pub returns : goal.returns
returns c =
    let k = c.args.known.now in
    let told = as_told _ k.horizon k.held (known_of k) c.args.ordinal _ _
    c.verdict_of-verdict.ensures c.is_settled-settled.ensures in
    rw (← told) c.put_line.ensures
