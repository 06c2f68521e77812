use Rattle.std.proofs.Common.{◌≡◌, ◌≤◌, ◌+◌, drop, length}
use Rattle.dx_tgd_text.specs.Numbering.{appeared, unknown_names, new_names, text_cells}
use Rattle.dx_tgd_text.proofs.names.Names.of_atoms.Given as goal

-- with the names in the rest, all have appeared
abbrev pub invariant-loop-atom : goal.invariant-loop-atom
invariant-loop-atom l =
    (appeared l.names (new_names l.known (text_cells (drop l.atom-index l.atoms))) ≡ unknown_names l.known l.atoms)
    × (length l.names + length (text_cells (drop l.atom-index l.atoms)) ≤ length (text_cells l.atoms))
