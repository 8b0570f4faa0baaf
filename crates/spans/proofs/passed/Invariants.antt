-- Before a stretch, `out` is what the span takes above H of the stretches before it.
use Rattle.std.proofs.Common.{◌≡◌}
use Rattle.record.specs.Pairs.{together}
use Rattle.record.specs.Records.{place}
use Rattle.spans.specs.Spans.{passed_in}
use Rattle.spans.proofs.passed.Given as goal

abbrev pub invariant-loop-x : goal.invariant-loop-x
invariant-loop-x l = l.out ≡ together l.x-index (λ i. passed_in l.horizon l.seconds (place l.r i))
