-- Before line k, `top` is the largest of the lines below k.
use Rattle.std.proofs.Common.{◌≡◌}
use Rattle.base.specs.Masks.{most}
use Rattle.table.specs.Table.{line_at}
use Rattle.meaning.specs.Tables.{line_top}
use Rattle.meaning.proofs.horizon_of.Given as goal

abbrev pub invariant-loop-k : goal.invariant-loop-k
invariant-loop-k l = l.top ≡ most l.k (λ i. line_top (line_at l.t i))
