use Rattle.std.proofs.Common.{◌≡◌, take}
use Rattle.csv.specs.Records.{fields_of, AllText}
use Rattle.dx_model.specs.Values.{constants}
use Rattle.dx_csv.proofs.load.row_of.Given as goal

abbrev pub invariant-loop-i : goal.invariant-loop-i
invariant-loop-i l = record { text : AllText (take l.i (fields_of l.given)); made : l.row ≡ constants (take l.i (fields_of l.given)) }
