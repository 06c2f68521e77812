use Rattle.std.specs.Prelude.{slice_index}
use Rattle.dx_instance.proofs.CellFacts.{AreReplaced}
use Rattle.dx_instance.proofs.cells.Rows.into_renumbered.Given as goal

abbrev pub invariant-loop-i : goal.invariant-loop-i
invariant-loop-i l = AreReplaced (slice_index l.ranks) l.initial.cells.items l.cells.items l.i
