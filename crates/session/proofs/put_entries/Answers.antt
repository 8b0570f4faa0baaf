-- `session::put_entries`: each turn moves a line over; an entry that cannot be read, and the end of the input, end it. Assumes
-- nothing.
use Rattle.std.proofs.Common.{◌≡◌, ◌<◌, refl, length, rules}
use Rattle.session.proofs.Turn.{going_begun, going_on, going_unread, going_less, going_over}
use Rattle.session.proofs.put_entries.Goals as goal

pub loop-reader-init : goal.loop-reader-init
loop-reader-init c = rw c.new-reader.ensures.1 (refl, refl, going_begun _ _ _ _ _ c.requires)

pub returns-in_default : goal.returns-in_default
returns-in_default c =
    let l = c.loop-reader in
    let same : l.reader.src.now ≡ c.args.s.now = cc in
    let more : l.reader.at < length c.args.s.now = rw (← same) (search rules) in
    going_unread l.invariant.2 more (rw same at c.next.ensures) c.in_default.is (rw c.into.ensures at c.put_refusal.ensures)

pub loop-reader-smaller : goal.loop-reader-smaller
loop-reader-smaller c =
    let l = c.loop-reader in
    let same : l.reader.src.now ≡ c.args.s.now = cc in
    let more : l.reader.at < length c.args.s.now = rw (← same) (search rules) in
    rw c.moved-reader.ensures.1 (going_less l.invariant.2 more (rw same at c.next.ensures) c.in-Some.is)

pub loop-reader-preserved : goal.loop-reader-preserved
loop-reader-preserved c =
    let l = c.loop-reader in
    let same : l.reader.src.now ≡ c.args.s.now = cc in
    let more : l.reader.at < length c.args.s.now = rw (← same) (search rules) in
    let entry = c.put_entry.ensures in
    rw c.moved-reader.ensures.1 (
      cc,
      cc,
      going_on l.invariant.2 more (rw same at c.next.ensures) c.in-Some.is
          (rw l.invariant.1 at entry.text) (rw l.invariant.1 at entry.held),
    )

pub returns : goal.returns
returns c = going_over c.loop-reader.invariant.2 (search rules)
