use Rattle.std.proofs.Common.{◌≡◌, ◌∙◌, ap₂, min, arith, rules}
use Rattle.std.proofs.lemmas.List.{get_or-take}
use Rattle.record.specs.Pairs.{both, together}
use Rattle.record.specs.Records.{blank}
use Rattle.record.proofs.Together.{together-next}
use Rattle.verdicts.specs.Said.{accepted_in}
use Rattle.verdicts.proofs.accepted_in.Goals as goal

pub loop-x-init : goal.loop-x-init
unfolding together
loop-x-init c = search rules

pub loop-x-preserved : goal.loop-x-preserved
loop-x-preserved c =
    let r = c.args.r.now in
    let i = c.loop-x.x-index in
    let here = get_or-take (min r.count 64) r.places i blank (search rules) in
    together-next i _ _
    (rw (← here, ← c.stretches-x-items.ensures.places) (c.both-out.ensures ∙ ap₂ both c.loop-x.invariant c.accepted_of.ensures))

pub returns : goal.returns
unfolding accepted_in
returns c =
    let whole : c.loop-x.x-index ≡ c.args.r.now.count = omega arith in
    cc
