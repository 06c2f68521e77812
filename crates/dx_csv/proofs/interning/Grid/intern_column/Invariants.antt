use Rattle.std.proofs.Common.{◌≡◌, length}
use Rattle.dx_instance.specs.Numbers.{Extends}
use Rattle.dx_csv.specs.Blanks.{NumbersOfTexts, OthersStay}
use Rattle.dx_csv.proofs.interning.Grid.intern_column.Given as goal

abbrev pub invariant-loop-row : goal.invariant-loop-row
invariant-loop-row l = record {
  size : length l.cells.items ≡ length l.initial.cells.items;
  numbered : NumbersOfTexts l.symbols l.self.texts.now l.self.width l.column l.cells.items l.row;
  others : OthersStay l.self.width l.column l.initial.cells.items l.cells.items;
  grows : Extends l.initial.symbols l.symbols;
}
