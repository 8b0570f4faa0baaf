use Rattle.std.proofs.Common.{refl, ◌≡◌, max, arith, rules}
use Rattle.base.specs.Masks.{most}
use Rattle.base.proofs.Masks.{most-next}
use Rattle.meaning.specs.Tables.{horizon, table_of}
use Rattle.meaning.proofs.horizon_of.Goals as goal

pub loop-k-init : goal.loop-k-init
unfolding most
loop-k-init c = refl

pub loop-k-preserved : goal.loop-k-preserved
loop-k-preserved c =
    let larger : c.max-top.result ≡ max c.loop-k.top c.line_top.result = search rules in
    most-next c.loop-k.k _ _ (rw (larger, c.line_top.ensures, c.line_at.ensures, c.loop-k.invariant) refl)

pub returns : goal.returns
unfolding horizon table_of
returns c =
    let all : c.loop-k.k ≡ c.head_of-lines.result.lines = omega arith in
    rw (c.loop-k.invariant, all, c.head_of-lines.ensures) refl
