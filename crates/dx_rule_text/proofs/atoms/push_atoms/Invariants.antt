use Rattle.std.proofs.Common.{◌≡◌, ◌++◌, take, map, flat_map}
use Rattle.std.specs.Prelude.{codes, string_bytes}
use Rattle.dx_rule_text.specs.Printed.{atom_text, table_name}
use Rattle.dx_rule_text.proofs.atoms.push_atoms.Given as goal

abbrev pub invariant-loop-other : goal.invariant-loop-other
invariant-loop-other l = string_bytes l.out ≡ string_bytes l.initial.out ++ flat_map (λ other. codes ", " ++ other) (map (atom_text (table_name l.schema)) (take l.other-index l.others))
