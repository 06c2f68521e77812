use Rattle.std.proofs.Common.{◌≡◌, ◌≤◌, ◌-◌, length, vec_capacity}
use Rattle.dx_instance.specs.Stored.{rows_of}
use Rattle.dx_holds.specs.Searching.{HasNoMatchBetween, texts}
use Rattle.dx_holds.proofs.matching.next_place.Given as goal

abbrev pub decreases-loop-place : goal.decreases-loop-place
decreases-loop-place l = length (rows_of l.question.target.now l.atom.table) - l.next

abbrev pub invariant-loop-place : goal.invariant-loop-place
invariant-loop-place l = record {
  capacity : vec_capacity l.found ≡ vec_capacity l.fn.found;
  same : l.found.items ≡ l.fn.found.items;
  later : l.from ≤ l.next;
  skips : HasNoMatchBetween (texts l.question.atoms.now l.question.tuple.now) l.question.target.now l.fn.found.items l.atom l.from l.next;
}
