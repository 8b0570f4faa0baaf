-- Before a stretch, `out` has the accepting states of the stretches before it.
use Rattle.std.proofs.Common.{◌≡◌}
use Rattle.record.specs.Pairs.{together}
use Rattle.record.specs.Records.{place}
use Rattle.verdicts.specs.Said.{accepted_of}
use Rattle.verdicts.proofs.accepted_in.Given as goal

abbrev pub invariant-loop-x : goal.invariant-loop-x
invariant-loop-x l = l.out ≡ together l.x-index (λ i. accepted_of l.accepting (place l.r i).pair)
