use Rattle.dx_funcs.specs.Serving.{offered}
use Rattle.dx_base.proofs.Loops.{each_item}
use Rattle.dx_schema.specs.Names.{table_names_of}
use Rattle.dx_script.specs.Fits.{SelectFits}
use Rattle.dx_eval.proofs.QueryFits.{next_call, next_cell, shown_call, shown_cell, the_cell}
use Rattle.dx_eval.specs.Variables.{variable_of}
use Rattle.dx_eval.proofs.query.shown_variables.Goals.{in-Cell+in_ok-push-in-Cell, in-Call+else-next+in_ok-push-in-Call}
use Rattle.dx_eval.proofs.query.shown_variables.Goals as goal

pub variable_of_cell-requires-clause-fits : goal.variable_of_cell-requires-clause-fits
variable_of_cell-requires-clause-fits g c =
    let f = each_item (SelectFits (table_names_of c.args.aliases.now.schema.now) (offered c.args.host.now) c.args.aliases.now.sources.now) c.args.select.now c.loop-one.one-index c.one-item.result c.loop-one-test.true c.one-item.is c.requires.fit in
    the_cell (table_names_of c.args.aliases.now.schema.now) (offered c.args.host.now) c.args.aliases.now.sources.now c.one-item.result _ c.in-Cell.is f

pub loop-one-preserved : goal.loop-one-preserved
loop-one-preserved g c =
    let V = variable_of (table_names_of c.args.aliases.now.schema.now) c.args.aliases.now.sources.now c.args.aliases.now.rows.now in
    elim c.match-one.branch [
      | in-Cell+in_ok-push-in-Cell w ↦ rw (w.shown-is, w.next-is) (record {
        shown = shown_cell V c.args.first c.args.select.now c.loop-one.one-index c.one-item.result c.loop-one-test.true c.one-item.is _ c.loop-one.shown.items w.push.new.self.items w.variable_of_cell.result w.in-Cell.is w.variable_of_cell.ensures c.loop-one.invariant.shown w.in_ok-push-in-Cell.ensures.items;
        next = next_cell V c.args.first c.args.select.now c.loop-one.one-index c.one-item.result c.loop-one-test.true c.one-item.is _ c.loop-one.next w.in-Cell.is c.loop-one.invariant.next;
      })
      | in-Call+else-next+in_ok-push-in-Call w ↦ rw (w.shown-is, w.next-is) (record {
        shown = shown_call V c.args.first c.args.select.now c.loop-one.one-index c.one-item.result c.loop-one-test.true c.one-item.is _ _ c.loop-one.shown.items w.push-in-Call.new.self.items c.loop-one.next w.in-Call.is c.loop-one.invariant.next c.loop-one.invariant.shown w.in_ok-push-in-Call.ensures.items;
        next = next_call V c.args.first c.args.select.now c.loop-one.one-index c.one-item.result c.loop-one-test.true c.one-item.is _ _ c.loop-one.next w.in-Call.is c.loop-one.invariant.next;
      })
    ]
