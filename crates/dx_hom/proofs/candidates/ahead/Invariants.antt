use Rattle.std.proofs.Common.{◌≤◌}
use Rattle.dx_instance.specs.NullMaps.{ByNull}
use Rattle.dx_hom.specs.Searching.{NotFrom}
use Rattle.dx_hom.proofs.candidates.ahead.Given as goal

abbrev pub invariant-loop-column : goal.invariant-loop-column
invariant-loop-column l = record {
  after : l.fn.next ≤ l.place;
  none : (fixed : ByNull) → NotFrom l.into fixed l.found.cells l.fact l.fn.next l.place;
}
