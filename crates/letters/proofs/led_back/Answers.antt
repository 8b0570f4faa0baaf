use Rattle.std.proofs.Common.{◌≡◌, arith, rules}
use Rattle.meaning.specs.Tables.{table_of}
use Rattle.record.specs.Pairs.{together}
use Rattle.record.proofs.Together.{together-next}
use Rattle.known.proofs.Laws.{known_of, known-few, known-horizon}
use Rattle.letters.proofs.Laws.{place_at, place_fits, led_begun, led_on, led_end, led-held}
use Rattle.letters.proofs.led_back.Goals as goal

pub loop-x-init : goal.loop-x-init
unfolding together
loop-x-init c = search rules

pub invariant_of-piece-items : goal.invariant_of-piece-items
invariant_of-piece-items c =
    let fits = place_fits c.args.known.now _ c.stretches-x-items.ensures.places c.loop-x.x-index (search rules) in
    record { fits = fits.1 }

pub loop-piece-init : goal.loop-piece-init
loop-piece-init c =
    let fits = place_fits c.args.known.now _ c.stretches-x-items.ensures.places c.loop-x.x-index (search rules) in
    led_begun _ _ (rw c.into_iter-piece-iterator.ensures.into_iter_gives fits.0)

pub loop-piece-preserved : goal.loop-piece-preserved
loop-piece-preserved c =
    led_on _ _ _ _ _ _ _ (search rules) c.loop-piece.invariant c.in-Some.ensures.steps c.both-out.ensures

pub loop-x-preserved : goal.loop-x-preserved
loop-x-preserved c =
    let turn = c.loop-x in
    let at = place_at c.args.known.now _ c.stretches-x-items.ensures.places turn.x-index (search rules) in
    let led = led_end _ _ _ _ c.loop-piece.invariant c.in-None.ensures.steps in
    let here = rw c.into_iter-piece-iterator.ensures.into_iter_gives at led in
    together-next turn.x-index _ _ (rw (← at, ← turn.invariant) here)

pub overflow_add-known : goal.overflow_add-known
overflow_add-known c = omega (arith, known-horizon _ _ _ (known_of c.args.known.now))

pub returns : goal.returns
returns c =
    let w = c.args.known.now in
    let known = known_of w in
    let all : c.loop-x.x-index ≡ w.held.count = omega (arith, known-few _ _ _ known) in
    led-held (table_of w.table.bytes.now) w.horizon _ c.args.letter w.held known.reach known.proper
    c.loop-x.out _ _ (rw all at c.loop-x.invariant) c.image_of-high.ensures c.both.ensures
