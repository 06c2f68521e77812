use Rattle.std.proofs.Common.{◌≡◌, ◌≤◌, ◌^◌, drop}
use Rattle.std.specs.Prelude.{max}
use Rattle.dx_model.specs.Rules.{after_cells, cells_of}
use Rattle.dx_rule_text.proofs.derived.after_atoms.Given as goal

abbrev pub invariant-loop-atom : goal.invariant-loop-atom
invariant-loop-atom l = (max l.next (after_cells (cells_of (drop l.atom-index l.atoms))) ≡ after_cells (cells_of l.atoms)) × (l.next ≤ 2 ^ 32)
