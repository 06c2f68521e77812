use Rattle.dx_json.specs.View.{members_view}
use Rattle.dx_json.specs.Said.{column_faults}
use Rattle.dx_json.proofs.Steps.{column_fails, refused}
use Rattle.dx_json.proofs.members.row_of.Goals as goal

pub returns-in_err-cell_of-clause-fault : goal.returns-in_err-cell_of-clause-fault
returns-in_err-cell_of-clause-fault c =
    let ms = members_view c.args.members.now in
    let all = column_faults c.args.path.now c.args.tree.now.label.columns ms in
    refused c.from_residual-in_err-cell_of.result c.in_err-cell_of.field-0.0 all c.from_residual-in_err-cell_of.ensures.1
    (column_fails c.args.path.now c.items-column-items.result.now c.loop-column.column-index c.column-item.result ms all c.in_err-cell_of.field-0.0 c.loop-column-test.true c.column-item.is c.loop-column.invariant.faults c.in_err-cell_of.ensures.fault)
