use Rattle.std.proofs.Common.{◌≡◌, ◌∙◌, arith, rules}
use Rattle.base.proofs.Rules.{tests}
use Rattle.table.specs.Table.{line_at}
use Rattle.meaning.specs.Tables.{table_of}
use Rattle.faults.proofs.Laws.{sound-iff}
use Rattle.record.specs.Pairs.{together}
use Rattle.image.specs.Images.{least, piece_with}
use Rattle.image.proofs.Laws.{line_ahead, line_held, end_next, led-next, piece_all, leads_low}
use Rattle.image.proofs.piece_of.Goals.{then-resets-reset+then-line-letter+then-age-line}
use Rattle.image.proofs.piece_of.Goals.{then-resets-reset+then-line-letter+else-age-line+then-age-line-2}
use Rattle.image.proofs.piece_of.Goals.{then-resets-reset+then-line-letter+else-age-line+else-age-line-2}
use Rattle.image.proofs.piece_of.Goals.{else-resets-reset, else-resets-reset-via-then-resets-reset+else-line-letter}
use Rattle.image.proofs.piece_of.Goals.{else-resets-reset-via-else-resets-reset}
use Rattle.image.proofs.piece_of.Goals as goal

pub loop-k-init : goal.loop-k-init
unfolding least together
loop-k-init c = search rules

pub led_pair-requires : goal.led_pair-requires
led_pair-requires c =
    let t = c.args.table.now in
    leads_low t.bytes.now ((sound-iff _).0 t.sound) _ _ c.loop-k.k t.headed (search rules) c.line_at-line.ensures

pub loop-k-preserved : goal.loop-k-preserved
unfolding piece_with
loop-k-preserved c =
    let a = c.args in
    let turn = c.loop-k in
    let line = c.line_at-line in
    let l = line.result in
    let ahead = line_ahead turn.out l a.reset a.letter a.age a.p in
    let held = line_held turn.out l a.reset a.letter a.age a.p in
    let with : c.if-resets-reset.out ≡ piece_with turn.out l a.reset a.letter a.age a.p = elim c.if-resets-reset.branch [
      | then-resets-reset+then-line-letter+then-age-line w ↦
          w.out-is ∙ ahead (search tests) (search rules) (search rules) _ (search rules)
      | then-resets-reset+then-line-letter+else-age-line+then-age-line-2 w ↦
          w.out-is ∙ held (search tests) (search rules) (search rules) (search rules) _ _ _ (search rules)
          w.led_pair.ensures w.both-out.ensures
      | then-resets-reset+then-line-letter+else-age-line+else-age-line-2 w ↦ w.out-is ∙ search tests
      | else-resets-reset w ↦ w.out-is ∙ elim w.else-resets-reset.branch [
        | else-resets-reset-via-then-resets-reset+else-line-letter w ↦ search tests
        | else-resets-reset-via-else-resets-reset w ↦ search tests
      ]
    ] in (
      end_next (line_at _) a.reset a.letter a.age a.last a.p turn.k _ line.ensures _ _ with turn.invariant.0,
      led-next (line_at _) a.reset a.letter a.age a.last a.p turn.k _ line.ensures _ _ with (search rules) turn.invariant.1,
    )

pub returns : goal.returns
unfolding table_of
returns c =
    let a = c.args in
    let t = a.table.now in
    let turn = c.loop-k in
    let head = t.headed in
    let all : turn.k ≡ t.head.lines = omega arith in
    piece_all (table_of t.bytes.now) a.reset a.letter a.age a.last a.p turn.k _ (cc) turn.invariant.0 turn.invariant.1
