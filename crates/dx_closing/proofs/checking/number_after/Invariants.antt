use Rattle.std.proofs.Common.{take, flat_map}
use Rattle.dx_model.specs.Fitting.{ByFirstAppearance}
use Rattle.dx_model.specs.Rules.{existential_in}
use Rattle.dx_closing.proofs.checking.number_after.Given as goal

abbrev pub invariant-loop-cell : goal.invariant-loop-cell
invariant-loop-cell l = ByFirstAppearance l.next (flat_map existential_in (take l.cell-index l.row)) l.after
