use Rattle.std.proofs.Common.{[], take}
use Rattle.std.specs.Prelude.{All}
use Rattle.csv.specs.Records.{AllText}
use Rattle.dx_csv.specs.Lines.{HavePrinted}
use Rattle.dx_csv.proofs.print.print_records_bytes.Given as goal

abbrev pub invariant-loop-record : goal.invariant-loop-record
invariant-loop-record l = record {
  printed : HavePrinted l.lines (take l.record-index l.records) [];
  texts : All AllText (take l.record-index l.records);
}
