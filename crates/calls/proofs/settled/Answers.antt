-- `calls::settled` is its checks and what was asked. Assumes nothing.
use mathlib.Core.Path.{refl, ◌∙◌}
use native.Mathlib.Omega.{arith}
use Rattle.verdicts.proofs.Laws.{settled_in_lem}
use Rattle.calls.specs.Calls.{settled_of}
use Rattle.calls.proofs.Steps.{ask_passed, proper-known}
use Rattle.calls.proofs.settled.Goals as goal

pub is_settled-requires : goal.is_settled-requires
is_settled-requires c =
    let passed = c.in_ok-check.ensures in
    let p = proper-known _ _ 0 passed.number refl in
    rw passed.held (omega (arith, p.fits, p.room_high))

pub returns : goal.returns
unfolding settled_of
returns c =
    let passed = c.in_ok-check.ensures in
    let told = rw passed.held at c.is_settled.ensures in
    ask_passed 0 _ _ passed.number refl _ (told ∙ settled_in_lem _ _ _ (proper-known _ _ 0 passed.number refl))
