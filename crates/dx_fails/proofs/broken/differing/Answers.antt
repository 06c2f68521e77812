use Rattle.std.proofs.Common.{◌∙◌, arith, refl, sym}
use Rattle.std.proofs.lemmas.Bool.{true≢false}
use Rattle.dx_base.proofs.Members.{in_at}
use Rattle.dx_holds.proofs.Agreeing.{row_has_table}
use Rattle.dx_fails.proofs.broken.differing.Goals as goal

pub cell-value-requires-clause-table : goal.cell-value-requires-clause-table
cell-value-requires-clause-table c = row_has_table c.args.instance.now c.args.table c.args.left c.requires.left

pub cell-requires-clause-table : goal.cell-requires-clause-table
cell-requires-clause-table c = row_has_table c.args.instance.now c.args.table c.args.right c.requires.right

pub cell-value-requires-clause-column : goal.cell-value-requires-clause-column
cell-value-requires-clause-column c = c.requires.columns _ (in_at c.args.columns.now c.loop-column.column-index 0 (omega arith))

pub cell-requires-clause-column : goal.cell-requires-clause-column
cell-requires-clause-column c = c.requires.columns _ (in_at c.args.columns.now c.loop-column.column-index 0 (omega arith))

pub returns-then-not-is : goal.returns-then-not-is
returns-then-not-is c = record {
  place = c.loop-column.column-index;
  within = omega arith;
  column = refl;
  differ = λ e. true≢false (sym (c.is.ensures.1 (c.cell.ensures ∙ (sym e ∙ sym c.cell-value.ensures))) ∙ c.if-not-is.true);
  before = c.loop-column.invariant;
}
