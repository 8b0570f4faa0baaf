use Rattle.std.proofs.Common.{refl, rules}
use Rattle.base.specs.Masks.{all}
use Rattle.base.proofs.Tests.{all-next, all-not}
use Rattle.base.proofs.Rules.{tests}
use Rattle.record.proofs.Record.places_ok.Goals as goal

pub loop-i-init : goal.loop-i-init
unfolding all
loop-i-init c = refl

pub returns-then-not-place_ok : goal.returns-then-not-place_ok
returns-then-not-place_ok c = all-not c.loop-i.i 64 _ (search rules) (search tests)

pub loop-i-preserved : goal.loop-i-preserved
loop-i-preserved c = all-next c.loop-i.i _ c.loop-i.invariant (search tests)
