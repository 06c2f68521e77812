use Rattle.std.proofs.Common.{◌≡◌, ◌++◌, take}
use Rattle.std.specs.Prelude.{map}
use Rattle.dx_schema.specs.Names.{TableNames, table_names_of}
use Rattle.dx_script.specs.declared.form.Step.TheVariants.{Create}
use Rattle.dx_scriptgen.proofs.generate.push_creates.Given as goal

abbrev pub invariant-loop-table : goal.invariant-loop-table
invariant-loop-table l = l.steps ≡ l.initial.steps ++ map (λ (t : TableNames). Create t.name t.columns) (take l.table (table_names_of l.target))
