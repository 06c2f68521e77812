use Rattle.std.proofs.Common.{◌++◌, take}
use Rattle.dx_holds.proofs.Least.{least_all, least_more, least_start, least_stays}
use Rattle.dx_holds.proofs.texts.least_with.Goals as goal
use Rattle.dx_holds.proofs.texts.least_with.Goals.{in-Var, in_default}

pub loop-cell-init : goal.loop-cell-init
loop-cell-init c = λ before m. least_start before c.args.cells.now c.args.from c.args.start m

pub loop-cell-preserved : goal.loop-cell-preserved
loop-cell-preserved c = λ before m.
    least_more before c.args.cells.now c.loop-cell.cell-index c.args.from c.cell-item.result _ c.loop-cell-test.true c.cell-item.is
    (elim c.match-cell.branch [
      | in-Var w ↦ rw w.least-is (w.lesser-least.ensures (before ++ take c.loop-cell.cell-index c.args.cells.now) c.cell-item.result w.in-Var.is (c.loop-cell.invariant before m))
      | in_default w ↦ rw w.least-is (least_stays (before ++ take c.loop-cell.cell-index c.args.cells.now) c.cell-item.result c.args.from c.loop-cell.least (λ x d. absurd (w.in_default.not-Var x d)) (c.loop-cell.invariant before m))
    ])

pub returns : goal.returns
returns c = λ before m. least_all before c.args.cells.now c.loop-cell.cell-index c.args.from c.loop-cell.least c.loop-cell-test.false (c.loop-cell.invariant before m)
