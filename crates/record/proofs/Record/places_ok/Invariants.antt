-- The places below i are all as they should be.
use Rattle.std.proofs.Common.{◌≡◌, true}
use Rattle.base.specs.Masks.{all}
use Rattle.record.specs.Records.{place_okb}
use Rattle.record.proofs.Record.places_ok.Given as goal

abbrev pub invariant-loop-i : goal.invariant-loop-i
invariant-loop-i l = true ≡ all l.i (place_okb l.horizon l.states l.self)
