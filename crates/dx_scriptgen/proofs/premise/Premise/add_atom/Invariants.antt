use Rattle.std.proofs.Common.{◌≡◌, drop}
use Rattle.dx_schema.specs.Names.{table_names_of}
use Rattle.dx_script.specs.Generated.{spots_of_cells}
use Rattle.dx_scriptgen.specs.Premises.{met_spots}
use Rattle.dx_scriptgen.proofs.premise.Premise.add_atom.Given as goal

abbrev pub invariant-loop-column : goal.invariant-loop-column
invariant-loop-column l = met_spots (spots_of_cells (table_names_of l.source) l.alias l.atom.table l.column (drop l.column l.atom.cells)) l.self ≡ met_spots (spots_of_cells (table_names_of l.source) l.alias l.atom.table 0 l.atom.cells) l.initial.self
