use Rattle.std.proofs.Common.{◌≡◌, ◌∙◌, get_or, rules}
use Rattle.record.specs.Pairs.{both, together}
use Rattle.record.specs.Records.{blank}
use Rattle.spans.specs.Spans.{passed_in}
use Rattle.record.proofs.Together.{together-next}
use Rattle.record.proofs.Asked.{place_of}
use Rattle.spans.proofs.Laws.{passed-one, passed-none}
use Rattle.spans.proofs.passed.Goals.{then-horizon-x, else-horizon-x}
use Rattle.spans.proofs.passed.Goals as goal

pub loop-x-init : goal.loop-x-init
unfolding together
loop-x-init c = search rules

pub loop-x-preserved : goal.loop-x-preserved
loop-x-preserved c =
    let i = c.loop-x.x-index in
    let items = c.stretches-x-items.result.now in
    let x = place_of c.args.r.now items i c.stretches-x-items.ensures.places (search rules) in
    let more : c.if-horizon-x.out ≡ both c.loop-x.out (passed_in c.args.horizon c.args.seconds (get_or items i blank)) =
    elim c.if-horizon-x.branch [
      | then-horizon-x w ↦ rw w.out-is (w.both-out.ensures ∙ passed-one _ _ (get_or items i blank) _ w.if-horizon-x.true)
      | else-horizon-x w ↦ rw w.out-is (passed-none _ _ (get_or items i blank) _ w.if-horizon-x.false)
    ] in
    together-next i _ _ (rw (← x.1, ← c.loop-x.invariant) more)
