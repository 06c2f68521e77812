use Rattle.std.proofs.Common.{arith}
use Rattle.dx_json.specs.Orders.{slots_of}
use Rattle.dx_json.proofs.Ordered.{cell_put, cells_put}
use Rattle.dx_json.proofs.orders.put_columns.Goals as goal

pub loop-column-preserved : goal.loop-column-preserved
loop-column-preserved c = record {
  made = cell_put c.items-column-items.result.now c.loop-column.column-index c.loop-column.number _ c.column-item.result _ (slots_of c.loop-column.order.entries) _ c.loop-column-test.true c.column-item.is c.loop-column.invariant.made c.in_ok-put.ensures (omega arith);
  counted = omega (arith, c.loop-column.invariant.counted);
}

pub returns : goal.returns
returns c = cells_put c.items-column-items.result.now c.loop-column.column-index c.loop-column.number _ (slots_of c.loop-column.order.entries) (omega (arith, c.loop-column-test.false)) c.loop-column.invariant.made
