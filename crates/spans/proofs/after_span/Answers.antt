use Rattle.std.proofs.Common.{◌≡◌, arith, rules}
use Rattle.record.proofs.Asked.{place_of}
use Rattle.spans.proofs.Laws.{so_far_none, so_far_next, so_far_all}
use Rattle.spans.proofs.after_span.Goals as goal

pub loop-x-init : goal.loop-x-init
loop-x-init c = so_far_none c.args.horizon _ c.args.seconds _ c.requires.proper.1 _ (cc)

pub loop-x-preserved : goal.loop-x-preserved
loop-x-preserved c =
    let x = place_of c.args.r.now c.stretches-x-items.result.now c.loop-x.x-index c.stretches-x-items.ensures.places (search rules) in
    so_far_next c.args.horizon _ c.args.seconds _ c.requires.proper.1 c.loop-x.x-index _ x.0 (rw (← x.1) (cc))

pub returns : goal.returns
returns c =
    let all : c.loop-x.x-index ≡ c.args.r.now.count = omega arith in
    cc (so_far_all c.args.horizon _ c.args.seconds _ c.requires.proper.1)
