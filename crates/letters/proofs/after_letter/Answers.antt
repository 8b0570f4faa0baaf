use Rattle.std.proofs.Common.{◌≡◌, max, get_or, arith, rules}
use Rattle.meaning.specs.Tables.{table_of}
use Rattle.record.specs.Records.{blank}
use Rattle.known.proofs.Laws.{known_of, known-few, known-horizon}
use Rattle.letters.proofs.Laws.{place_at, place_fits, kept_first, kept_on, kept_end, kept_above, kept-begun, kept_next, kept-all}
use Rattle.letters.proofs.after_letter.Goals as goal

pub overflow_add-known : goal.overflow_add-known
overflow_add-known c = omega (arith, known-horizon _ _ _ (known_of c.args.known.now))

pub loop-x-init : goal.loop-x-init
loop-x-init c =
    let w = c.args.known.now in
    let T = table_of w.table.bytes.now in
    let proper = (known_of w).proper in
    let high = c.image_of-high in
    let above = kept_above T w.horizon _ c.args.letter w.held proper high.result high.ensures in
    rw (← above) (kept-begun T w.horizon _ c.args.letter w.held proper w.held.room high.result _
    _ _ proper.room_high c.newborn-first.ensures c.empty-out.ensures c.push.ensures)

pub invariant_of-piece-items : goal.invariant_of-piece-items
invariant_of-piece-items c =
    let fits = place_fits c.args.known.now _ c.stretches-x-items.ensures.places c.loop-x.x-index (search rules) in
    record { fits = fits.1 }

pub loop-piece-init : goal.loop-piece-init
loop-piece-init c =
    let fits = place_fits c.args.known.now _ c.stretches-x-items.ensures.places c.loop-x.x-index (search rules) in
    kept_first _ _ (rw c.into_iter-piece-iterator.ensures.into_iter_gives (omega (arith, fits.0)))

pub loop-piece-preserved : goal.loop-piece-preserved
loop-piece-preserved c =
    kept_on _ _ _ _ _ _ _ (search rules) c.loop-piece.invariant c.in-Some.ensures.steps c.push-in-loop-piece.ensures

pub loop-x-preserved : goal.loop-x-preserved
loop-x-preserved c =
    let w = c.args.known.now in
    let proper = (known_of w).proper in
    let turn = c.loop-x in
    let at = place_at w _ c.stretches-x-items.ensures.places turn.x-index (search rules) in
    let kept = kept_end _ _ _ _ c.loop-piece.invariant c.in-None.ensures.steps in
    let larger : c.max.result ≡ max 1 (get_or c.stretches-x-items.result.now turn.x-index blank).first = search rules in
    let here = rw (c.into_iter-piece-iterator.ensures.into_iter_gives, larger, at) at kept in
    kept_next (table_of w.table.bytes.now) w.horizon _ c.args.letter w.held proper turn.x-index w.held.room _ turn.out _
    proper.room_high (search rules) turn.invariant here

pub returns : goal.returns
returns c =
    let w = c.args.known.now in
    let known = known_of w in
    kept-all (table_of w.table.bytes.now) w.horizon _ c.args.letter w.held known.proper c.loop-x.x-index _ _ _
    (omega (arith, known-few _ _ _ known)) c.loop-x.invariant
