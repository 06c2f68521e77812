use Rattle.std.proofs.Common.{◌≡◌, ◌<◌, ◌≤◌, ℕ, take}
use Rattle.dx_base.specs.Members.{Each}
use Rattle.dx_model.specs.declared.rules.Cell.TheVariants.{Ex}
use Rattle.dx_holds.proofs.room.above_cells.Given as goal

abbrev pub invariant-loop-cell : goal.invariant-loop-cell
invariant-loop-cell l = record {
  start : l.fn.start ≤ l.above;
  above : Each (take l.cell-index l.cells) (λ z. (v : ℕ) → z ≡ Ex v → v < l.above);
}
