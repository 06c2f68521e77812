use Rattle.std.proofs.Common.{◌≡◌, ◌++◌, take}
use Rattle.std.specs.Prelude.{map}
use Rattle.dx_schema.specs.Names.{table_names_of}
use Rattle.dx_script.specs.Generated.{insert_step}
use Rattle.dx_scriptgen.proofs.inserts.push_inserts.Given as goal

abbrev pub invariant-loop-atom : goal.invariant-loop-atom
invariant-loop-atom l = l.steps ≡ l.initial.steps ++ map (insert_step (table_names_of l.target) l.kept l.number l.rule) (take l.atom-index l.rule.conclusion)
