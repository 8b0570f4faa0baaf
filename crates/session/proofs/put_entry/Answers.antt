-- `session::put_entry`: what is held then is proper again, and the line of an accepted call is by that; that of a refusal is by its
-- number. Assumes nothing.
use Rattle.faults.specs.Numbered.{number}
use Rattle.faults.proofs.Numbered.{number-some}
use Rattle.calls.specs.Calls.{refusal}
use Rattle.session.specs.Sessions.{answer_text}
use Rattle.session.proofs.Laws.{next_proper, answer-refused}
use Rattle.session.proofs.put_entry.Goals as goal

pub invariant_of-known : goal.invariant_of-known
invariant_of-known c =
    let k = c.args.known.now in
    record { reach = k.reach; proper = next_proper k c.args.entry.symbol _ c.in-Ok.ensures }

pub invariant_of-known-in-Err : goal.invariant_of-known-in-Err
invariant_of-known-in-Err c =
    let k = c.args.known.now in
    record { reach = k.reach; proper = next_proper k c.args.entry.symbol _ c.in-Err.ensures }

pub returns-in-Ok-clause-text : goal.returns-in-Ok-clause-text
unfolding answer_text
returns-in-Ok-clause-text c = rw (← c.in-Ok.ensures) c.put_held.ensures

pub returns-in-Err-clause-text : goal.returns-in-Err-clause-text
returns-in-Err-clause-text c =
    let k = c.args.known.now in
    let x = c.in-Err.refusal in
    let line = answer-refused k.table.bytes.now c.args.entry.ordinal (refusal (number x.fault) x.held) (number-some x.fault) in
    rw (← c.in-Err.ensures, line, ← c.into.ensures) c.put_refusal.ensures
