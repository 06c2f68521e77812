use Rattle.std.proofs.Common.{◌≡◌, vec_capacity}
use Rattle.dx_instance.specs.Places.{row_at}
use Rattle.dx_holds.specs.Searching.{AddsExactly, texts}
use Rattle.dx_holds.proofs.Narrowing.{MeetsFirst}
use Rattle.dx_holds.proofs.matching.meet_row.Given as goal

abbrev pub invariant-loop-column : goal.invariant-loop-column
invariant-loop-column l = record {
  capacity : vec_capacity l.found ≡ vec_capacity l.fn.found;
  narrows : AddsExactly l.question.target.now (vec_capacity l.fn.found) l.fn.found.items (MeetsFirst (texts l.question.atoms.now l.question.tuple.now) l.atom.cells (row_at l.question.target.now l.atom.table l.place) l.column) l.found.items;
}
