use Rattle.std.proofs.Common.{◌≡◌, ◌-◌, length}
use Rattle.dx_instance.specs.Numbers.{Extends}
use Rattle.dx_csv.specs.Blanks.{ColumnsSettled}
use Rattle.dx_csv.proofs.interning.Grid.rows.Given as goal

abbrev pub invariant-loop-settled : goal.invariant-loop-settled
invariant-loop-settled l = record {
  size : length l.cells.items ≡ length l.self.texts.now;
  settled : ColumnsSettled l.used l.symbols l.self.texts.now l.self.width l.self.count l.cells.items (l.self.width - l.settled);
  grows : Extends l.initial.symbols l.symbols;
}
