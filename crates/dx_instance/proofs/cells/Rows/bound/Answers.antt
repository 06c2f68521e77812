use Rattle.std.proofs.Common.{◌∙◌, ◌+◌, ◌^◌, List, ℕ, arith, get_or, subst}
use Rattle.std.proofs.lemmas.List.{take_all}
use Rattle.dx_base.specs.Members.{Each}
use Rattle.dx_instance.specs.Cells.{NumberTable}
use Rattle.dx_instance.specs.Shown.{NumbersBelow}
use Rattle.dx_instance.proofs.CellFacts.{below_one_more, rows_below}
use Rattle.dx_instance.proofs.KeyFacts.{max_is}
use Rattle.dx_instance.proofs.cells.Rows.bound.Goals as goal

pub loop-cell-preserved : goal.loop-cell-preserved
loop-cell-preserved c =
    let cell = get_or c.as_slice-cell-items.result.now c.loop-cell.cell-index 0 in
    let m = max_is c.loop-cell.bound (cell + 1) c.max-bound.result c.max-bound.ensures in
    let above = m.second in
    let width = c.type_inv.cell-items c.loop-cell.cell-index in
    record {
      below = below_one_more c.as_slice-cell-items.result.now c.loop-cell.cell-index c.loop-cell.bound c.max-bound.result c.loop-cell-test.true m.first (omega (arith, above)) c.loop-cell.invariant.below;
      small = m.least (2 ^ 32) c.loop-cell.invariant.small (omega (arith, width));
    }

pub returns-clause-below : goal.returns-clause-below
returns-clause-below c =
    let all = take_all c.loop-cell.cell-index c.as_slice-cell-items.result.now c.loop-cell-test.false ∙ c.as_slice-cell-items.ensures.value in
    let rows = rows_below c.self.inside.count c.self.inside.width c.loop-cell.bound c.self.inside.cells.items (subst (λ (cells : List ℕ). NumbersBelow c.loop-cell.bound cells) all c.loop-cell.invariant.below) in
    subst (λ (t : NumberTable). Each t.rows (NumbersBelow c.loop-cell.bound)) c.self.view_is rows
