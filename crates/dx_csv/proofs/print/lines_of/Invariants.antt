use Rattle.std.proofs.Common.{[], take}
use Rattle.std.specs.Prelude.{All}
use Rattle.csv.specs.Records.{AllText}
use Rattle.dx_instance.specs.Stored.{rows_of}
use Rattle.dx_csv.specs.Lines.{HavePrinted}
use Rattle.dx_csv.specs.Print.{records_of_table}
use Rattle.dx_csv.proofs.print.lines_of.Given as goal

abbrev pub invariant-loop-place : goal.invariant-loop-place
invariant-loop-place l = record {
  printed : HavePrinted l.lines (records_of_table l.columns (take l.place (rows_of l.instance l.table))) [];
  texts : All AllText (records_of_table l.columns (take l.place (rows_of l.instance l.table)));
}
