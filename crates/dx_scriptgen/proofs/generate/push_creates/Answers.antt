use Rattle.std.proofs.Common.{◌<◌, ◌∙◌, length}
use Rattle.dx_schema.specs.Names.{TableNames, table_names_of, names_of_table}
use Rattle.dx_schema.specs.Tables.{schema_table, tables_of}
use Rattle.dx_script.specs.declared.form.Step.TheVariants.{Create}
use Rattle.dx_scriptgen.proofs.Lists.{pushed}
use Rattle.dx_scriptgen.proofs.Tables.{named_item, named_within}
use Rattle.dx_scriptgen.proofs.generate.push_creates.Goals as goal

pub loop-table-preserved : goal.loop-table-preserved
loop-table-preserved c =
    let f = c.args.target.now in
    let t = c.loop-table.table in
    let h : t < length (tables_of f) = rw c.tables-table-end.ensures.count at c.loop-table-test.true in
    let x : TableNames = names_of_table (schema_table f t) in
    let a = c.in_ok-copy.ensures ∙ c.name.ensures in
    let b = c.in_ok-copy_texts.ensures ∙ c.columns.ensures.names in
    pushed (λ (n : TableNames). Create n.name n.columns) (table_names_of f) t x c.args.steps.now c.loop-table.steps c.push.new.self (named_within f t h) (named_item f t x h) c.loop-table.invariant
    (c.in_ok-push.ensures.ok ∙ cc)
