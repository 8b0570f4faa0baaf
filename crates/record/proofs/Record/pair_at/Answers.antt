-- A stretch that the loop comes to has the age, or the stretches before it say what it is; where none is left, none has it. Assumes
-- nothing.
use native.Mathlib.Omega.{arith}
use Rattle.std.proofs.Common.{◌≡◌, ◌+◌, ◌-◌, rules}
use Rattle.record.specs.Records.{pair_in}
use Rattle.record.proofs.Asked.{pairs_at-high, pairs_at-in, pair_in-next}
use Rattle.record.proofs.Record.pair_at.Goals as goal

pub returns-then-horizon-age : goal.returns-then-horizon-age
returns-then-horizon-age c = pairs_at-high _ _ _ (search rules)

pub returns-then-contains : goal.returns-then-contains
returns-then-contains c =
    let said = c.stretches-stretches.ensures in
    let back : c.loop-i.i - 1 + 1 ≡ c.loop-i.i = omega arith in
    let next = rw back at (pair_in-next c.args.self.now.places _ _ (c.loop-i.i - 1) c.args.age said.places (omega arith)) in
    pairs_at-in _ _ _ _ _ (search rules) said.count (rw (c.loop-i.invariant, next, ← c.contains.ensures, c.if-contains.true))

pub loop-i-preserved : goal.loop-i-preserved
loop-i-preserved c =
    let said = c.stretches-stretches.ensures in
    let back : c.loop-i.i - 1 + 1 ≡ c.loop-i.i = omega arith in
    let next = rw back at (pair_in-next c.args.self.now.places _ _ (c.loop-i.i - 1) c.args.age said.places (omega arith)) in
    rw (c.loop-i.invariant, next, ← c.contains.ensures, c.if-contains.false)

pub returns : goal.returns
unfolding pair_in
returns c =
    let said = c.stretches-stretches.ensures in
    let none : c.loop-i.i ≡ 0 = omega arith in
    pairs_at-in _ _ _ _ _ (search rules) said.count (rw (c.loop-i.invariant, none) (search rules))
