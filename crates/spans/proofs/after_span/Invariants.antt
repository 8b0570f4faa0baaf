-- Before a stretch, `out` is the record that holds what the stretches before it become.
use Rattle.std.proofs.Common.{◌≡◌}
use Rattle.spans.proofs.Laws.{so_far}
use Rattle.spans.proofs.after_span.Given as goal

abbrev pub invariant-loop-x : goal.invariant-loop-x
invariant-loop-x l = l.out ≡ so_far l.horizon l.seconds l.r l.x-index
