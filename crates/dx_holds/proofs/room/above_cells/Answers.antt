use Rattle.std.proofs.Common.{◌≡◌, ◌∙◌, ◌<◌, ℕ, arith, refl, sym}
use Rattle.std.proofs.lemmas.List.{take_all}
use Rattle.dx_base.proofs.Loops.{each_more}
use Rattle.dx_model.specs.declared.rules.Cell.{Cell}
use Rattle.dx_model.specs.declared.rules.Cell.TheVariants.{Ex}
use Rattle.dx_holds.proofs.Finding.{same_ex}
use Rattle.dx_holds.proofs.room.above_cells.Goals as goal
use Rattle.dx_holds.proofs.room.above_cells.Goals.{in-Ex, in_default}

pub loop-cell-preserved : goal.loop-cell-preserved
loop-cell-preserved c =
    elim c.match-cell.branch [
      | in-Ex w ↦ rw w.above-is (record {
        start = omega (arith, c.loop-cell.invariant.start, w.greater-above.ensures.first);
        above = each_more (λ (z : Cell). (v : ℕ) → z ≡ Ex v → v < w.greater-above.result) c.args.cells.now c.loop-cell.cell-index c.cell-item.result c.loop-cell-test.true c.cell-item.is
            (λ z m v e. let h = c.loop-cell.invariant.above z m v e in omega (arith, h, w.greater-above.ensures.first))
            (λ v e. let d = same_ex w.in-Ex.variable v (sym w.in-Ex.is ∙ e) in omega (arith, d, w.greater-above.ensures.second));
      })
      | in_default w ↦ rw w.above-is (record {
        start = c.loop-cell.invariant.start;
        above = each_more (λ (z : Cell). (v : ℕ) → z ≡ Ex v → v < c.loop-cell.above) c.args.cells.now c.loop-cell.cell-index c.cell-item.result c.loop-cell-test.true c.cell-item.is c.loop-cell.invariant.above (λ v e. absurd (w.in_default.not-Ex v e));
      })
    ]

pub returns-clause-above : goal.returns-clause-above
returns-clause-above c = λ v m. (rw (take_all c.loop-cell.cell-index c.args.cells.now c.loop-cell-test.false) at c.loop-cell.invariant.above) (Ex v) m v refl
