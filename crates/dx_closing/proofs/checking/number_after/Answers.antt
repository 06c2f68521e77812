use Rattle.std.proofs.Common.{arith}
use Rattle.std.proofs.lemmas.Bool.{false≢true}
use Rattle.dx_closing.proofs.Appearance.{known_numbered, next_numbered, none_numbered, row_more, skips}
use Rattle.dx_closing.proofs.checking.number_after.Goals as goal
use Rattle.dx_closing.proofs.checking.number_after.Goals.{in-Ex+else-number-after+then-number-after-2, in-Ex+else-number-after+else-number-after-2, in_default}

pub returns-then-number-after-clause-none : goal.returns-then-number-after-clause-none
returns-then-number-after-clause-none c = (
  (λ t. absurd (false≢true t)),
  skips c.args.next c.loop-cell.after c.in-Ex.variable c.loop-cell.cell-index c.args.row.now c.cell-item.result c.loop-cell-test.true c.cell-item.is c.in-Ex.is (omega (arith, c.if-number-after.true, c.from-number.ensures)) c.loop-cell.invariant,
)

pub loop-cell-preserved : goal.loop-cell-preserved
loop-cell-preserved c =
    row_more c.args.next c.loop-cell.after c.match-cell.after c.loop-cell.cell-index c.args.row.now c.cell-item.result c.loop-cell-test.true c.cell-item.is c.loop-cell.invariant
    (elim c.match-cell.branch [
      | in-Ex+else-number-after+then-number-after-2 w ↦
          next_numbered c.loop-cell.after c.match-cell.after w.in-Ex.variable c.cell-item.result w.in-Ex.is (omega (arith, w.from-number.ensures, w.if-number-after-2.true)) w.after-is
      | in-Ex+else-number-after+else-number-after-2 w ↦
          known_numbered c.loop-cell.after c.match-cell.after w.in-Ex.variable c.cell-item.result w.in-Ex.is (omega (arith, w.from-number.ensures, w.if-number-after.false, w.if-number-after-2.false)) w.after-is
      | in_default w ↦ none_numbered c.loop-cell.after c.match-cell.after c.cell-item.result w.in_default.not-Ex w.after-is
    ])
