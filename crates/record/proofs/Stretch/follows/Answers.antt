-- What touches it comes directly behind it. Assumes nothing.
use Rattle.std.proofs.Common.{rules}
use Rattle.record.proofs.Asked.{follows-touches}
use Rattle.record.proofs.Stretch.follows.Goals as goal

pub returns-then-before-self : goal.returns-then-before-self
returns-then-before-self c = follows-touches _ _ c.touches.result (search rules) c.touches.ensures
