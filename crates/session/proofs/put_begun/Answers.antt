-- `session::put_begun`: a refused start by its number; else its line and those of the entries. Assumes nothing.
use Rattle.faults.proofs.Numbered.{number-some}
use Rattle.text.proofs.Laws.{adds_then}
use Rattle.calls.specs.Calls.{accepted}
use Rattle.session.specs.Sessions.{answer_text}
use Rattle.session.proofs.Whole.{begun_refused, begun_accepted, begun_ready}
use Rattle.session.proofs.put_begun.Goals as goal

pub put_entries-requires : goal.put_entries-requires
unfolding answer_text
put_entries-requires c =
    let k = c.in-Ok.known in
    let lines = c.put_held.ensures in
    begun_ready k.table.bytes.now c.args.s.now c.args.from (accepted k.held) _ _ c.requires.begins c.requires.empty lines

pub returns-in-Ok : goal.returns-in-Ok
returns-in-Ok c =
    let same = c.in-Ok.ensures.table in
    let lines = adds_then (rw same at c.put_held.ensures) (rw same at c.put_entries.ensures) in
    rw (begun_accepted c.args.t.now c.args.s.now c.args.room c.args.from c.in-Ok.known.held c.in-Ok.ensures.answer) at lines

pub returns-in-Err : goal.returns-in-Err
returns-in-Err c =
    let text = begun_refused c.args.t.now c.args.s.now c.args.room c.args.from _ c.in-Err.ensures.answer (number-some c.in-Err.refusal.fault) in
    rw (c.into.ensures, text) at c.put_refusal.ensures
