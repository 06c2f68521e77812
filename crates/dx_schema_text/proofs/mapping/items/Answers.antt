use Rattle.std.proofs.Common.{sym}
use Rattle.std.proofs.lemmas.Result.{err_from_is_err_and}
use Rattle.dx_schema_text.specs.Reading.{begins_item, item_reader}
use Rattle.dx_grammar.proofs.Loops.{loop_on, loop_shorter, loop_fails, loop_stops}
use Rattle.dx_schema_text.proofs.Follows.{item_consumes}
use Rattle.dx_schema_text.proofs.mapping.items.Goals as goal

pub returns-in_err-next : goal.returns-in_err-next
returns-in_err-next c =
    let p = err_from_is_err_and c.from_residual.result c.from_residual.ensures.1 in
    rw (p.1, p.2) (loop_fails (begins_item c.args.conditions) (item_reader c.args.conditions) (item_consumes c.args.conditions) c.in_err-next.field-0.0 c.items.items c.items.rest.now _ (sym c.items-test.ensures) c.in_err-next.ensures c.items.invariant)

pub items-smaller : goal.items-smaller
items-smaller c = loop_shorter (begins_item c.args.conditions) (item_reader c.args.conditions) (item_consumes c.args.conditions) c.items.rest.now c.in_ok-next.after.now c.in_ok-next.next (sym c.items-test.ensures) c.in_ok-next.ensures

pub items-preserved : goal.items-preserved
items-preserved c = loop_on (begins_item c.args.conditions) (item_reader c.args.conditions) (item_consumes c.args.conditions) c.items.items c.push.new.self c.items.rest.now c.in_ok-next.after.now c.in_ok-next.next _ (sym c.items-test.ensures) c.in_ok-next.ensures c.in_ok-push.ensures.ok c.items.invariant

pub returns : goal.returns
returns c = loop_stops (begins_item c.args.conditions) (item_reader c.args.conditions) (item_consumes c.args.conditions) c.items.items c.items.rest.now _ (sym c.items-test.ensures) c.items.invariant
