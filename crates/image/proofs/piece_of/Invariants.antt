-- Before line k, `out` is the piece of the lines below k.
use Rattle.std.proofs.Common.{◌≡◌}
use Rattle.table.specs.Table.{line_at}
use Rattle.record.specs.Pairs.{together}
use Rattle.image.specs.Images.{line_pair, least, line_until}
use Rattle.image.proofs.piece_of.Given as goal

abbrev pub invariant-loop-k : goal.invariant-loop-k
invariant-loop-k l = (l.out.end ≡ least l.last l.k (λ i. line_until (line_at l.table.bytes.now i) l.reset l.letter l.age l.last))
    × (l.out.led ≡ together l.k (λ i. line_pair (line_at l.table.bytes.now i) l.reset l.letter l.age l.p))
