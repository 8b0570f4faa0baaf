use Rattle.std.proofs.Common.{refl, rules}
use Rattle.std.proofs.lemmas.Result.{err_from_is_err_and}
use Rattle.base.specs.Checks.{first_of}
use Rattle.base.proofs.Checks.{first_here, first_on}
use Rattle.faults.specs.Numbered.{number_of}
use Rattle.faults.proofs.Numbered.{number-some}
use Rattle.faults.proofs.check_lines.Goals as goal

pub loop-k-init : goal.loop-k-init
unfolding first_of
loop-k-init c = refl

pub returns-in_err-check_line : goal.returns-in_err-check_line
returns-in_err-check_line c =
    let p = err_from_is_err_and c.from_residual.result c.from_residual.ensures.1 in
    rw (p.1, p.2) (first_here c.loop-k.k _ _ _ (search rules) c.loop-k.invariant (search rules) (number-some _))

pub loop-k-preserved : goal.loop-k-preserved
loop-k-preserved c = first_on c.loop-k.k _ (number_of c.check_line.result) c.loop-k.invariant (search rules) (search rules)
