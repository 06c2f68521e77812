use Rattle.std.proofs.Common.{◌∙◌, ap, arith}
use Rattle.std.specs.Prelude.{map}
use Rattle.dx_model.specs.declared.rules.Cell.TheVariants.{Var}
use Rattle.dx_base.proofs.Loops.{each_item}
use Rattle.dx_eval.proofs.QueryFits.{premise_more}
use Rattle.dx_base.specs.Members.{◌∈◌}
use Rattle.dx_schema.specs.Names.{table_names_of}
use Rattle.dx_script.specs.Names.{table_names}
use Rattle.dx_eval.proofs.query.premise_of.Goals as goal

pub table_number-requires : goal.table_number-requires
table_number-requires c =
    each_item (λ name. name ∈ table_names (table_names_of c.args.aliases.now.schema.now)) c.args.aliases.now.sources.now c.loop-alias.alias c.index-sources-alias.result c.loop-alias-test.true c.index-sources-alias.is c.requires.named

pub loop-alias-preserved : goal.loop-alias-preserved
loop-alias-preserved c =
    let m = c.requires.wide.many in
    premise_more (table_names_of c.args.aliases.now.schema.now) c.args.aliases.now.sources.now c.args.aliases.now.rows.now c.loop-alias.alias c.table_number.result c.index-sources-alias.result c.index-rows-alias.result c.in_ok-cells_of_row.field-0
    c.loop-alias.premise.items c.push.new.self.items c.loop-alias-test.true (omega (arith, c.loop-alias-test.true, m)) c.index-sources-alias.is c.index-rows-alias.is c.table_number.ensures.number
    (c.in_ok-cells_of_row.ensures ∙ ap (map Var) c.items.ensures) c.loop-alias.invariant c.in_ok-push.ensures.items
