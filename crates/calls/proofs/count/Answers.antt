-- `calls::count` is its checks and what was asked. Assumes nothing.
use mathlib.Core.Path.{sym}
use Rattle.calls.proofs.Laws.{count_held}
use Rattle.calls.proofs.count.Goals as goal

pub returns : goal.returns
returns c =
    let passed = c.in_ok-check.ensures in
    rw passed.held (sym (count_held _ _ (sym passed.number)))
