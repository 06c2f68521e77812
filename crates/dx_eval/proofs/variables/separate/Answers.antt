use Rattle.dx_base.proofs.Loops.{each_item}
use Rattle.dx_base.specs.Members.{◌∈◌}
use Rattle.dx_schema.specs.Names.{table_names_of}
use Rattle.dx_script.specs.Names.{table_names}
use Rattle.dx_eval.proofs.Joined.{separate_all, separate_step}
use Rattle.dx_eval.proofs.variables.separate.Goals as goal

pub table_width-width-requires : goal.table_width-width-requires
table_width-width-requires c = each_item (λ name. name ∈ table_names (table_names_of c.args.source.now)) c.args.sources.now c.loop-name.name-index c.name-item.result c.loop-name-test.true c.name-item.is c.requires

pub loop-name-preserved : goal.loop-name-preserved
loop-name-preserved c =
    separate_step (table_names_of c.args.source.now) c.args.sources.now c.loop-name.name-index c.name-item.result c.loop-name.rows.items c.push.new.self.items c.in_ok-fresh.field-0 c.loop-name.count c.table_width-width.result c.loop-name-test.true c.name-item.is
    c.loop-name.invariant c.table_width-width.ensures.width c.in_ok-fresh.ensures c.in_ok-push.ensures.items

pub returns : goal.returns
returns c = separate_all (table_names_of c.args.source.now) c.args.sources.now c.loop-name.name-index c.loop-name.rows.items c.loop-name.count c.loop-name-test.false c.loop-name.invariant
