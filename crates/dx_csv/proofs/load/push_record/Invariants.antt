use Rattle.std.proofs.Common.{◌++◌, List, ℕ, take}
use Rattle.csv.specs.Records.{AllText, fields_of}
use Rattle.dx_csv.specs.Fields.{HaveFields}
use Rattle.dx_csv.proofs.load.push_record.Given as goal

abbrev pub invariant-loop-i : goal.invariant-loop-i
invariant-loop-i l = record {
  text : AllText (take l.i (fields_of l.given));
  pushed : (old : List (List ℕ)) → HaveFields l.initial.fields old → HaveFields l.fields (old ++ take l.i (fields_of l.given));
}
