use Rattle.std.proofs.Common.{[], sym, ◌∙◌, arith}
use Rattle.std.proofs.lemmas.List.{get_or_read}
use Rattle.dx_model.specs.declared.rules.Cell.TheVariants.{Lit}
use Rattle.dx_base.proofs.Members.{in_at}
use Rattle.dx_closing.proofs.Steps.{has_stops, has_goes_on}
use Rattle.dx_closing.proofs.cells.has_chosen.Goals as goal

pub bounds-row-column : goal.bounds-row-column
bounds-row-column c = c.requires.within _ (in_at c.args.columns.now c.loop-place.place 0 c.loop-place-test.true)

pub returns-then-not-is_same_cell : goal.returns-then-not-is_same_cell
returns-then-not-is_same_cell c =
    let b = c.requires.within _ (in_at c.args.columns.now c.loop-place.place 0 c.loop-place-test.true) in
    has_stops c.args.row.now c.args.columns.now c.args.cells.now c.loop-place.place c.index-row-column.result c.index-cells-place.result c.loop-place-test.true (omega arith)
    (get_or_read c.args.row.now _ _ b c.index-row-column.is (Lit [])) c.index-cells-place.is (sym c.is_same_cell.ensures ∙ c.if-not-is_same_cell.true) c.loop-place.invariant

pub loop-place-preserved : goal.loop-place-preserved
loop-place-preserved c =
    let b = c.requires.within _ (in_at c.args.columns.now c.loop-place.place 0 c.loop-place-test.true) in
    has_goes_on c.args.row.now c.args.columns.now c.args.cells.now c.loop-place.place c.index-row-column.result c.index-cells-place.result c.loop-place-test.true (omega arith)
    (get_or_read c.args.row.now _ _ b c.index-row-column.is (Lit [])) c.index-cells-place.is (sym c.is_same_cell.ensures ∙ c.if-not-is_same_cell.false) c.loop-place.invariant
