-- No stretch from the one that the loop has come to on has the age.
use Rattle.std.proofs.Common.{◌≡◌, length}
use Rattle.record.specs.Records.{pair_in}
use Rattle.record.proofs.Record.pair_at.Given as goal

abbrev pub invariant-loop-i : goal.invariant-loop-i
invariant-loop-i l = pair_in l.self.places (length l.stretches) l.age ≡ pair_in l.self.places l.i l.age
