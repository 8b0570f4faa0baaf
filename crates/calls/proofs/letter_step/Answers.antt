-- `calls::letter_step` meets its contract: 9, then 11 by the count of what was built. Assumes nothing.
use mathlib.Core.Path.{◌∙◌}
use Rattle.std.proofs.Common.{rules}
use Rattle.known.proofs.Laws.{known_of}
use Rattle.calls.proofs.Steps.{letter_unknown, letter_over, letter_fits}
use Rattle.calls.proofs.letter_step.Goals as goal

pub returns-then-known-letter : goal.returns-then-known-letter
returns-then-known-letter c =
    let k = c.args.known.now in
    c.refused.ensures ∙ letter_unknown _ k.held c.args.letter _ k.table.headed (search rules)

pub returns-then-known-next : goal.returns-then-known-next
returns-then-known-next c =
    let k = c.args.known.now in
    c.refused-then-known-next.ensures
    ∙ letter_over _ k.held c.args.letter _ k.table.headed k.horizon (known_of k) _ c.after_letter-next.ensures
    (search rules) (search rules)

pub returns : goal.returns
returns c =
    let k = c.args.known.now in
    letter_fits _ k.held c.args.letter _ k.table.headed k.horizon (known_of k) _ c.after_letter-next.ensures
    (search rules) (search rules)
