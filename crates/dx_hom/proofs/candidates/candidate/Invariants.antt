use Rattle.std.proofs.Common.{◌≤◌, ◌-◌, length}
use Rattle.dx_instance.specs.NullMaps.{ByNull}
use Rattle.dx_instance.specs.Stored.{rows_of}
use Rattle.dx_hom.specs.Searching.{NotFrom}
use Rattle.dx_hom.proofs.candidates.candidate.Given as goal

abbrev pub decreases-loop-later : goal.decreases-loop-later
decreases-loop-later l = length (rows_of l.into l.fact.table) - l.place

abbrev pub invariant-loop-later : goal.invariant-loop-later
invariant-loop-later l = record {
  after : l.fn.next ≤ l.place;
  none : (fixed : ByNull) → NotFrom l.into fixed l.found.cells l.fact l.fn.next l.place;
}
