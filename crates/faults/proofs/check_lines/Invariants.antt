-- Before line k, none of the lines below k has a number, so that line k's is the first if it has one.
use Rattle.std.proofs.Common.{◌≡◌}
use Rattle.base.specs.Checks.{first_of}
use Rattle.table.specs.Table.{line_at}
use Rattle.faults.specs.Faults.{line_fault}
use Rattle.faults.proofs.check_lines.Given as goal

abbrev pub invariant-loop-k : goal.invariant-loop-k
invariant-loop-k l = 0 ≡ first_of l.k (λ i. line_fault l.h (line_at l.t i))
