-- `session::put_session`: the line of a session that is not framed; else the table is cut off, and what is written behind it is
-- the session's text. Assumes nothing.
use Rattle.std.proofs.Common.{sym, ◌∙◌, ap, arith, rules, length}
use Rattle.session.proofs.Laws.{framed-within, table-within, table-length}
use Rattle.session.proofs.Whole.{in_frame, unframed}
use Rattle.session.proofs.put_session.Goals as goal

pub returns-then-not-is_framed : goal.returns-then-not-is_framed
returns-then-not-is_framed c =
    rw (c.into.ensures, unframed c.args.s.now (sym c.if-not-is_framed.ensures)) at c.put_refusal.ensures

pub table_in-table-requires : goal.table_in-table-requires
table_in-table-requires c = (framed-within c.args.s.now (sym c.if-not-is_framed.ensures)).0

pub bounds-s-1 : goal.bounds-s-1
bounds-s-1 c =
    let long = (framed-within c.args.s.now (sym c.if-not-is_framed.ensures)).0 in
    search rules

pub put_begun-requires-clause-begins : goal.put_begun-requires-clause-begins
put_begun-requires-clause-begins c =
    let s = c.args.s.now in
    let framed = sym c.if-not-is_framed.ensures in
    let long = ap length c.table_in-table.ensures ∙ table-length s framed in
    record {
      short = (framed-within s framed).1;
      behind = omega arith;
      within = omega (arith, long, table-within s framed);
      roomy = c.requires.roomy;
    }

pub returns : goal.returns
returns c =
    rw (in_frame c.args.s.now (sym c.if-not-is_framed.ensures) _ c.table_in-table.ensures) at c.put_begun.ensures
