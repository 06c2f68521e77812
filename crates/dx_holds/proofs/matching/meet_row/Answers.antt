use Rattle.std.proofs.Common.{◌≡◌, ◌<◌, ◌∙◌, [], subst, length, arith, vec_capacity}
use Rattle.std.proofs.lemmas.List.{get_or_default}
use Rattle.dx_base.specs.Members.{◌∈◌}
use Rattle.dx_base.proofs.Loops.{each_item}
use Rattle.dx_model.specs.declared.rules.Cell.{Cell}
use Rattle.dx_model.specs.declared.rules.Cell.TheVariants.{Ex}
use Rattle.dx_model.specs.declared.values.Value.TheVariants.{Const}
use Rattle.dx_instance.specs.Places.{row_at, value_at}
use Rattle.dx_holds.specs.Searching.{texts}
use Rattle.dx_holds.proofs.Narrowing.{in_cells, only_member, row_failed, row_more, row_whole, row_wide}
use Rattle.dx_holds.proofs.matching.meet_row.Goals as goal

pub meet_cell-requires-clause-known : goal.meet_cell-requires-clause-known
meet_cell-requires-clause-known c =
    let h : c.loop-column.column < length c.args.atom.now.cells = omega (arith, (c.args.question.now.fit.tables c.args.atom.now c.requires.atom).1, c.width-column-end.ensures, c.loop-column-test.true) in
    in_cells c.args.question.now.atoms.now c.args.atom.now c.index-cells-column.result c.requires.atom
    (each_item (λ (z : Cell). z ∈ c.args.atom.now.cells) c.args.atom.now.cells c.loop-column.column c.index-cells-column.result h (rw c.items-cells.ensures at c.index-cells-column.is) (λ z m. m))

pub meet_cell-requires-clause-ready : goal.meet_cell-requires-clause-ready
meet_cell-requires-clause-ready c =
    let h : c.loop-column.column < length c.args.atom.now.cells = omega (arith, (c.args.question.now.fit.tables c.args.atom.now c.requires.atom).1, c.width-column-end.ensures, c.loop-column-test.true) in
    let in_atom = each_item (λ (z : Cell). z ∈ c.args.atom.now.cells) c.args.atom.now.cells c.loop-column.column c.index-cells-column.result h (rw c.items-cells.ensures at c.index-cells-column.is) (λ z m. m) in
    record {
      good = rw c.loop-column.invariant.capacity c.loop-column.invariant.narrows.good;
      room = λ v m. rw c.loop-column.invariant.capacity (c.requires.ready.room v (subst (λ (z : Cell). z ∈ c.args.atom.now.cells) (only_member c.index-cells-column.result (Ex v) m) in_atom));
    }

pub returns-then-not-meet_cell-clause-cases : goal.returns-then-not-meet_cell-clause-cases
returns-then-not-meet_cell-clause-cases c =
    let fits = c.args.question.now.fit.tables c.args.atom.now c.requires.atom in
    let h : c.loop-column.column < length c.args.atom.now.cells = omega (arith, fits.1, c.width-column-end.ensures, c.loop-column-test.true) in
    let l : length c.args.atom.now.cells ≡ length (row_at c.args.question.now.target.now c.args.atom.now.table c.args.place) = row_wide c.args.question.now.target.now c.args.atom.now c.args.place fits.0 fits.1 c.requires.place c.tables.ensures.rows in
    row_failed (texts c.args.question.now.atoms.now c.args.question.now.tuple.now) c.args.question.now.target.now (vec_capacity c.args.found.now) c.args.atom.now.cells (row_at c.args.question.now.target.now c.args.atom.now.table c.args.place)
    c.args.found.now.items c.loop-column.found.items c.loop-column.column c.index-cells-column.result (value_at c.args.question.now.target.now c.args.atom.now.table c.args.place c.loop-column.column) l h (rw c.items-cells.ensures at c.index-cells-column.is)
    (get_or_default (row_at c.args.question.now.target.now c.args.atom.now.table c.args.place) c.loop-column.column (Const []) _ (omega (arith, h, l))) c.loop-column.invariant.narrows c.meet_cell.new.found.items c.if-not-meet_cell.ensures.cases

pub loop-column-preserved : goal.loop-column-preserved
loop-column-preserved c =
    let fits = c.args.question.now.fit.tables c.args.atom.now c.requires.atom in
    let h : c.loop-column.column < length c.args.atom.now.cells = omega (arith, fits.1, c.width-column-end.ensures, c.loop-column-test.true) in
    let l : length c.args.atom.now.cells ≡ length (row_at c.args.question.now.target.now c.args.atom.now.table c.args.place) = row_wide c.args.question.now.target.now c.args.atom.now c.args.place fits.0 fits.1 c.requires.place c.tables.ensures.rows in
    record {
      capacity = c.meet_cell.ensures.capacity ∙ c.loop-column.invariant.capacity;
      narrows = row_more (texts c.args.question.now.atoms.now c.args.question.now.tuple.now) c.args.question.now.target.now (vec_capacity c.args.found.now) c.args.atom.now.cells (row_at c.args.question.now.target.now c.args.atom.now.table c.args.place)
          c.args.found.now.items c.loop-column.found.items c.loop-column.column c.index-cells-column.result (value_at c.args.question.now.target.now c.args.atom.now.table c.args.place c.loop-column.column) l h (rw c.items-cells.ensures at c.index-cells-column.is)
          (get_or_default (row_at c.args.question.now.target.now c.args.atom.now.table c.args.place) c.loop-column.column (Const []) _ (omega (arith, h, l))) c.loop-column.invariant.narrows c.meet_cell.new.found.items (rw c.loop-column.invariant.capacity at c.if-not-meet_cell.ensures.cases);
    }

pub returns-clause-cases : goal.returns-clause-cases
returns-clause-cases c =
    let fits = c.args.question.now.fit.tables c.args.atom.now c.requires.atom in
    let l : length c.args.atom.now.cells ≡ length (row_at c.args.question.now.target.now c.args.atom.now.table c.args.place) = row_wide c.args.question.now.target.now c.args.atom.now c.args.place fits.0 fits.1 c.requires.place c.tables.ensures.rows in
    row_whole (texts c.args.question.now.atoms.now c.args.question.now.tuple.now) c.args.question.now.target.now (vec_capacity c.args.found.now) c.args.atom.now.cells (row_at c.args.question.now.target.now c.args.atom.now.table c.args.place)
    c.args.found.now.items c.loop-column.found.items c.loop-column.column l (omega (arith, fits.1, c.width-column-end.ensures, c.loop-column-test.false)) c.loop-column.invariant.narrows
