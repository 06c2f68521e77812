use Rattle.std.proofs.Common.{◌≡◌, ◌∙◌, ℕ, List, refl, sym, ap, length, get_or, map}
use Rattle.std.specs.Prelude.{slice_index}
use Rattle.std.proofs.lemmas.List.{take_all, length-map, map_more, get_or_default}
use Rattle.dx_instance.specs.Cells.{NumberTable, rows_of_cells}
use Rattle.dx_instance.proofs.CellFacts.{cell_below, renumbered_is}
use Rattle.dx_instance.proofs.cells.Rows.renumbered.Goals as goal

pub bounds-ranks-cell : goal.bounds-ranks-cell
bounds-ranks-cell c =
    let all = c.as_slice-cell-items.ensures.value in
    rw all (cell_below c.args.self.now c.self.inside.count c.self.inside.width c.self.inside.cells.items c.loop-cell.cell-index (get_or c.self.inside.cells.items c.loop-cell.cell-index 0) (length c.args.ranks.now) c.self.view_is c.self.invariant c.requires
    (rw all at c.loop-cell-test.true) (get_or_default c.self.inside.cells.items c.loop-cell.cell-index 0 _ (rw all at c.loop-cell-test.true)))

pub loop-cell-preserved : goal.loop-cell-preserved
loop-cell-preserved c =
    let f : ℕ → ℕ = λ x. get_or c.args.ranks.now x 0 in
    let at : get_or c.args.ranks.now (get_or c.as_slice-cell-items.result.now c.loop-cell.cell-index 0) 0 ≡ f (get_or c.as_slice-cell-items.result.now c.loop-cell.cell-index 0) = refl in
    c.in_ok-push.ensures.items ∙ rw c.loop-cell.invariant (sym (map_more f c.as_slice-cell-items.result.now c.loop-cell.cell-index 0 c.loop-cell-test.true))

pub invariant_of-result : goal.invariant_of-result
invariant_of-result c =
    let all = c.as_slice-cell-items.ensures.value in
    let whole = c.loop-cell.invariant ∙ ap (λ (l : List ℕ). map (slice_index c.args.ranks.now) l) (take_all c.loop-cell.cell-index c.as_slice-cell-items.result.now c.loop-cell-test.false ∙ all) in
    ap length whole ∙ length-map c.self.inside.cells.items (slice_index c.args.ranks.now) ∙ c.self.invariant

pub returns : goal.returns
returns c =
    let all = c.as_slice-cell-items.ensures.value in
    let whole = c.loop-cell.invariant ∙ ap (λ (l : List ℕ). map (slice_index c.args.ranks.now) l) (take_all c.loop-cell.cell-index c.as_slice-cell-items.result.now c.loop-cell-test.false ∙ all) in
    ap (λ (cells : List ℕ). let t : NumberTable = record { width = c.self.inside.width; rows = rows_of_cells c.self.inside.count c.self.inside.width cells } in t) whole
    ∙ renumbered_is c.args.self.now c.self.inside.count c.self.inside.width c.self.inside.cells.items c.args.ranks.now c.self.view_is
