use Rattle.std.proofs.Common.{◌∙◌, ◌<◌, ℕ, List, arith, ap, get_or, length}
use Rattle.std.specs.Prelude.{slice_index}
use Rattle.std.proofs.lemmas.List.{get_or_default}
use Rattle.dx_instance.specs.Cells.{NumberTable, rows_of_cells}
use Rattle.dx_instance.proofs.CellFacts.{cell_below, renumbered_is, replaced_all}
use Rattle.dx_instance.proofs.cells.Rows.into_renumbered.Goals as goal

pub bounds-ranks-index : goal.bounds-ranks-index
bounds-ranks-index c =
    let cells = c.self.inside.cells.items in
    let i = c.loop-i.i in
    let h : i < length cells = omega (arith, c.loop-i.invariant.many, c.loop-i-test.true, c.loop-i.cells.ok.0, c.len-i-end.ensures, c.self.inside.cells.ok.0) in
    let b = cell_below c.args.self c.self.inside.count c.self.inside.width cells i (get_or cells i 0) (length c.args.ranks.now) c.self.view_is c.self.invariant c.requires h (get_or_default cells i 0 _ h) in
    let e = c.index.ensures ∙ get_or_default c.loop-i.cells.items i c.index.result.now 0 (omega (arith, h, c.loop-i.invariant.many)) in
    let left = c.loop-i.invariant.left i (omega arith) in
    omega (arith, b, e, left)

pub returns : goal.returns
returns c =
    let whole = replaced_all (slice_index c.args.ranks.now) c.self.inside.cells.items c.loop-i.cells.items c.loop-i.i (omega (arith, c.loop-i-test.false, c.len-i-end.ensures, c.self.inside.cells.ok.0)) c.loop-i.invariant in
    ap (λ (cells : List ℕ). let t : NumberTable = record { width = c.self.inside.width; rows = rows_of_cells c.self.inside.count c.self.inside.width cells } in t) whole
    ∙ renumbered_is c.args.self c.self.inside.count c.self.inside.width c.self.inside.cells.items c.args.ranks.now c.self.view_is
