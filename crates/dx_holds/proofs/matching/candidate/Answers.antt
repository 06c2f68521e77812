use Rattle.std.proofs.Common.{◌≡◌, ◌<◌, arith, get_or, length, subst}
use Rattle.dx_base.specs.Members.{◌∈◌}
use Rattle.dx_base.proofs.Members.{in_at, only_one}
use Rattle.dx_model.specs.declared.rules.Cell.{Cell}
use Rattle.dx_model.specs.Rules.{cells_of}
use Rattle.dx_holds.specs.Searching.{texts}
use Rattle.dx_holds.proofs.Narrowing.{by_column, in_cells}
use Rattle.dx_holds.proofs.matching.candidate.Goals as goal

pub known_value-requires-clause-known : goal.known_value-requires-clause-known
known_value-requires-clause-known c =
    let h : c.loop-column.column-counter < length c.args.atom.now.cells = omega (arith, (c.args.question.now.fit.tables c.args.atom.now c.requires.atom).1, c.width-column-end.ensures, c.loop-column-test.true) in
    let is : c.index-cells-column.result ≡ get_or c.args.atom.now.cells c.loop-column.column-counter c.index-cells-column.result = rw c.items-cells.ensures at c.index-cells-column.is in
    let m = rw (← is) at (in_at c.args.atom.now.cells c.loop-column.column-counter c.index-cells-column.result h) in
    λ x e. subst (λ (z : Cell). z ∈ cells_of c.args.question.now.atoms.now) e (in_cells c.args.question.now.atoms.now c.args.atom.now c.index-cells-column.result c.requires.atom m)

pub with_columns-requires-clause-columns : goal.with_columns-requires-clause-columns
with_columns-requires-clause-columns c = λ k m. only_one _ c.loop-column.column-counter k (rw c.from_ref.ensures.value at m) (rw c.width-column-end.ensures at c.loop-column-test.true)

pub with_columns-requires-2-clause-columns : goal.with_columns-requires-2-clause-columns
with_columns-requires-2-clause-columns c = λ k m. elim m [ ]

pub returns-in-Some : goal.returns-in-Some
returns-in-Some c =
    let h : c.loop-column.column-counter < length c.args.atom.now.cells = omega (arith, (c.args.question.now.fit.tables c.args.atom.now c.requires.atom).1, c.width-column-end.ensures, c.loop-column-test.true) in
    by_column (texts c.args.question.now.atoms.now c.args.question.now.tuple.now) c.args.question.now.target.now c.args.found.now c.args.atom.now c.loop-column.column-counter c.args.from c.index-cells-column.result c.in-Some.value h
    (rw c.items-cells.ensures at c.index-cells-column.is) c.in-Some.ensures
    c.with_columns.result (rw (c.from_ref.ensures.value, c.from_ref-in-Some.ensures.value) at c.with_columns.ensures)
