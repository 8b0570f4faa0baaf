-- `text::Lines::put_number`: what `io::decimal` wrote is the number's text.
use Rattle.std.proofs.Common.{◌≡◌, ap, arith, length, take}
use Rattle.text.specs.Text.{decimal}
use Rattle.text.proofs.Laws.{decimal-is, decimal-length}
use Rattle.text.proofs.Lines.put_number.Goals as goal

pub put-requires : goal.put-requires
put-requires c =
    let d = c.decimal-count in
    let text = take d.result d.new.out in
    let written : text ≡ decimal c.args.n = decimal-is c.args.n d.result text (omega arith) d.ensures.len d.ensures.digits in
    omega (arith, ap length written, decimal-length c.args.n)

pub returns : goal.returns
returns c =
    let d = c.decimal-count in
    let text = take d.result d.new.out in
    let written : text ≡ decimal c.args.n = decimal-is c.args.n d.result text (omega arith) d.ensures.len d.ensures.digits in
    record {
      text = rw (← written) c.put.ensures;
      short = omega (arith, ap length written, decimal-length c.args.n);
    }
