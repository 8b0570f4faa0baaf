-- `watch::read_input`: the place reached stays within the buffer.
use Rattle.std.proofs.Common.{◌≤◌, length}
use Rattle.watch.proofs.read_input.Given as goal

abbrev pub invariant-loop : goal.invariant-loop
invariant-loop g l = l.at ≤ length l.buf
