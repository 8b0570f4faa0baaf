use Rattle.std.proofs.Common.{rules}
use Rattle.meaning.specs.Tables.{table_of}
use Rattle.faults.proofs.Laws.{sound-iff}
use Rattle.spans.proofs.Laws.{gap_pushed}
use Rattle.spans.proofs.at_gap.Goals as goal

pub all_states-all-requires : goal.all_states-all-requires
all_states-all-requires c =
    let table = c.args.table.now in
    rw table.headed ((sound-iff table.bytes.now).0 table.sound).states

pub returns : goal.returns
unfolding table_of
returns c =
    let table = c.args.table.now in
    let headed = table.headed in
    cc (gap_pushed (table_of table.bytes.now) c.args.horizon c.args.room (search rules) (search rules))
