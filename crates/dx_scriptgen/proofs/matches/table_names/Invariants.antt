use Rattle.std.proofs.Common.{◌≡◌, take}
use Rattle.std.specs.Prelude.{map}
use Rattle.dx_model.specs.declared.rules.Atom.{Atom}
use Rattle.dx_schema.specs.Names.{table_names_of}
use Rattle.dx_script.specs.Names.{table_numbered}
use Rattle.dx_scriptgen.proofs.matches.table_names.Given as goal

abbrev pub invariant-loop-atom : goal.invariant-loop-atom
invariant-loop-atom l = l.names ≡ map (λ (a : Atom). (table_numbered (table_names_of l.source) a.table).name) (take l.atom-index l.atoms)
