use Rattle.std.proofs.Common.{List, ℕ, [], take}
use Rattle.csv.specs.Records.{AllText}
use Rattle.dx_csv.specs.Lines.{HavePrinted}
use Rattle.dx_csv.proofs.print.print_record.Given as goal

abbrev pub invariant-loop-text : goal.invariant-loop-text
invariant-loop-text l = record {
  printed : (records : List (List (List ℕ))) → HavePrinted l.initial.lines records [] → HavePrinted l.lines records (take l.text-index l.fields);
  texts : AllText (take l.text-index l.fields);
}
