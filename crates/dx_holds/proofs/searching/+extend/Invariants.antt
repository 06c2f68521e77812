use Rattle.std.proofs.Common.{◌≡◌, ◌-◌, length, vec_capacity}
use Rattle.dx_instance.specs.Stored.{rows_of}
use Rattle.dx_holds.specs.Searching.{texts}
use Rattle.dx_holds.proofs.Parts.{Tried}
use Rattle.dx_holds.proofs.searching.+extend.Given as goal

abbrev pub decreases-extend : goal.decreases-extend
decreases-extend l = length l.question.now.atoms.now - length l.done.now.items

abbrev pub decreases-loop-place : goal.decreases-loop-place
decreases-loop-place l = length (rows_of l.question.target.now l.atom.table) - l.from

abbrev pub invariant-loop-place : goal.invariant-loop-place
invariant-loop-place l = record {
  found_capacity : vec_capacity l.found ≡ vec_capacity l.fn.found;
  done_capacity : vec_capacity l.done ≡ vec_capacity l.fn.done;
  found_same : l.found.items ≡ l.fn.found.items;
  done_same : l.done.items ≡ l.fn.done.items;
  tried : Tried (texts l.question.atoms.now l.question.tuple.now) l.question.atoms.now l.question.target.now l.fn.found.items l.fn.done.items l.next l.from;
}
