-- `session::table_in` cuts off what its definition says. Assumes nothing.
use Rattle.session.proofs.Laws.{table-cut, table-all, length_stated}
use Rattle.session.proofs.table_in.Goals as goal

pub returns-in_default : goal.returns-in_default
returns-in_default c = table-all c.args.s.now c.in_default.len_below

pub returns : goal.returns
returns c =
    let s = c.args.s.now in
    table-cut s _ (length_stated s _ _ c.be16-stated.ensures c.min.ensures c.in-len3-up.len_at_least)
