use Rattle.std.proofs.Common.{◌≡◌, [], take, drop, length, ◌≤◌}
use Rattle.dx_model.specs.Rules.{cells_of}
use Rattle.dx_schema.specs.Names.{table_names_of}
use Rattle.dx_script.specs.Generated.{spots}
use Rattle.dx_scriptgen.specs.Premises.{met_spots}
use Rattle.dx_scriptgen.proofs.premise.Premise.of_atoms.Given as goal

abbrev pub invariant-loop-alias : goal.invariant-loop-alias
invariant-loop-alias l = (l.alias ≤ length (cells_of (take l.alias l.atoms))) × (met_spots (spots (table_names_of l.source) l.alias (drop l.alias l.atoms)) l.premise ≡ met_spots (spots (table_names_of l.source) 0 l.atoms) (record { firsts = []; equal = [] }))
