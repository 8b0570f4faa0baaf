-- The age lies within, past the next one, or it is the next one. Assumes nothing.
use mathlib.Core.Path.{◌∙◌, sym}
use mathlib.Core.Bool.{true≢false}
use borrow.Author.Tests.{le-ltb}
use Rattle.std.proofs.Common.{rules}
use Rattle.record.proofs.Asked.{touches-low, touches-not, touches-so}
use Rattle.record.proofs.Stretch.touches.Goals.{then-self-age, else-self-age}
use Rattle.record.proofs.Stretch.touches.Goals as goal

pub returns-else-self-age-2 : goal.returns-else-self-age-2
returns-else-self-age-2 c = elim c.if-self-age.branch [
  | then-self-age w ↦ touches-not _ _ _ _ (search rules) w.value-is c.if-self-age-2.false
  | else-self-age w ↦ c.if-self-age-2.false ∙ touches-low _ _ _ (search rules)
]

pub returns-then-self-age-2 : goal.returns-then-self-age-2
returns-then-self-age-2 c = elim c.if-self-age.branch [
  | then-self-age w ↦ touches-so _ _ _ _ _ (search rules) w.value-is c.if-self-age-2.true (search rules)
  | else-self-age w ↦ absurd (true≢false (sym c.if-self-age-2.true ∙ w.value-is ∙ le-ltb _ _ (search rules)))
]
