use Rattle.std.proofs.Common.{List, ℕ, [], take, map}
use Rattle.csv.specs.Records.{AllText}
use Rattle.dx_instance.specs.Shown.{shown_row}
use Rattle.dx_instance.specs.ValueText.{value_text_of}
use Rattle.dx_csv.specs.Lines.{HavePrinted}
use Rattle.dx_csv.proofs.print.print_row.Given as goal

abbrev pub invariant-loop-number : goal.invariant-loop-number
invariant-loop-number l = record {
  printed : (records : List (List (List ℕ))) → HavePrinted l.initial.lines records []
      → HavePrinted l.lines records (map value_text_of (shown_row l.numbers.symbols (take l.number-index l.row)));
  texts : AllText (map value_text_of (shown_row l.numbers.symbols (take l.number-index l.row)));
}
