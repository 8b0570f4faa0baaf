-- `calls::verdict` is its checks and what was asked. Assumes nothing.
use mathlib.Core.Path.{refl}
use Rattle.calls.specs.Calls.{verdict_of}
use Rattle.calls.proofs.Steps.{ask_passed, proper-known}
use Rattle.calls.proofs.verdict.Goals as goal

pub verdict_of-requires : goal.verdict_of-requires
verdict_of-requires c =
    let passed = c.in_ok-check.ensures in
    rw passed.held (_, proper-known _ _ 0 passed.number refl)

pub returns : goal.returns
unfolding verdict_of
returns c =
    let passed = c.in_ok-check.ensures in
    ask_passed 0 _ _ passed.number refl _ (rw passed.held at c.verdict_of.ensures)
