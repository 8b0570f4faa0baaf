-- Before a stretch, `out` is what is led back from those before it.
use Rattle.std.proofs.Common.{◌≡◌}
use Rattle.meaning.specs.Tables.{table_of}
use Rattle.record.specs.Pairs.{together}
use Rattle.record.specs.Records.{place}
use Rattle.letters.specs.Letters.{led_back_in}
use Rattle.letters.proofs.Laws.{LedBack}
use Rattle.letters.proofs.led_back.Given as goal

abbrev pub invariant-loop-x : goal.invariant-loop-x
invariant-loop-x l = l.out ≡ together l.x-index (λ j. led_back_in (table_of l.known.table.bytes.now) l.letter (place l.known.held j))

abbrev pub invariant-loop-piece : goal.invariant-loop-piece
invariant-loop-piece l = LedBack l.initial.piece-iterator l.piece-iterator l.initial.out l.out
