use Rattle.std.proofs.Common.{◌≡◌, take}
use Rattle.std.specs.Prelude.{map}
use Rattle.dx_model.specs.declared.rules.Cell.TheVariants.{Var}
use Rattle.dx_eval.proofs.query.cells_of_row.Given as goal

abbrev pub invariant-loop-x : goal.invariant-loop-x
invariant-loop-x l = l.cells ≡ map Var (take l.x-index l.row)
