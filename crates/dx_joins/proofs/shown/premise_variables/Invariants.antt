use Rattle.std.proofs.Common.{◌≡◌, ◌≤◌, ◌^◌, drop}
use Rattle.std.specs.Prelude.{max}
use Rattle.dx_model.specs.Rules.{after_cells, cells_of}
use Rattle.dx_joins.proofs.shown.premise_variables.Given as goal

abbrev pub invariant-loop-atom : goal.invariant-loop-atom
invariant-loop-atom l = (max l.next (after_cells (cells_of (drop l.atom-index l.premise))) ≡ after_cells (cells_of l.premise)) × (l.next ≤ 2 ^ 32)
