use Rattle.std.proofs.Common.{[], arith}
use Rattle.dx_model.specs.declared.rules.Cell.TheVariants.{Lit}
use Rattle.dx_logical.proofs.Fresh.{given_next}
use Rattle.dx_closing.proofs.cells.given_cell.Goals as goal

pub loop-place-preserved : goal.loop-place-preserved
loop-place-preserved c =
    given_next c.args.columns.now c.args.cells.now c.args.column c.loop-place.place (Lit []) c.loop-place-test.true (omega arith) c.if-known-column.false c.loop-place.invariant
