use Rattle.std.proofs.Common.{take}
use Rattle.std.specs.List.{AllZip}
use Rattle.dx_model.specs.Tables.{values_in}
use Rattle.dx_judge.specs.Asking.{SaysValue}
use Rattle.dx_judge.proofs.asking.terms_of.Given as goal

abbrev pub invariant-loop-column : goal.invariant-loop-column
invariant-loop-column l = AllZip (SaysValue l.numbers.symbols l.nulls) (values_in (take l.column-index l.order) l.row) l.terms
