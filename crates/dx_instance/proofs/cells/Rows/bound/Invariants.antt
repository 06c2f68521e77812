use Rattle.std.proofs.Common.{◌≤◌, ◌^◌, take}
use Rattle.dx_instance.specs.Shown.{NumbersBelow}
use Rattle.dx_instance.proofs.cells.Rows.bound.Given as goal

abbrev pub invariant-loop-cell : goal.invariant-loop-cell
invariant-loop-cell l = record {
  below : NumbersBelow l.bound (take l.cell-index l.cell-items);
  small : l.bound ≤ 2 ^ 32;
}
