use Rattle.std.proofs.Common.{◌∙◌, rules}
use Rattle.std.proofs.lemmas.Iterator.{YieldsList-from_slice}
use Rattle.std.proofs.lemmas.Iterator.Search.{all_from_yields_List}
use Rattle.base.proofs.Rules.{also, tests}
use Rattle.verdicts.specs.Said.{equal_sets, settled_in}
use Rattle.verdicts.proofs.Laws.{settled_places}
use Rattle.verdicts.proofs.is_settled.Goals as goal

pub returns-then-r : goal.returns-then-r
unfolding settled_in
returns-then-r c =
    let r = c.args.r.now in
    let items = c.stretches.result.now in
    let each = YieldsList-from_slice items cc in
    let asked = all_from_yields_List (λ x. equal_sets x.pair) _ _ _ c.all.ensures.ran each (λ x b q k. search rules) in
    also (equal_sets r.above) _ _ (search tests)
    (asked ∙ settled_places r items c.requires c.stretches.ensures.places c.stretches.ensures.count)

pub returns-else-r : goal.returns-else-r
unfolding settled_in
returns-else-r c = search tests
