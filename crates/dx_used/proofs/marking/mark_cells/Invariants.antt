use Rattle.std.proofs.Common.{◌≡◌, ◌<◌, ℕ, [], true, false, length, slice_index_or}
use Rattle.dx_base.specs.Members.{Each}
use Rattle.dx_model.specs.declared.rules.Cell.TheVariants.{Lit}
use Rattle.dx_model.specs.declared.rules.Rule.{Rule}
use Rattle.dx_used.specs.Used.{AsksOfValue, IsIdle, mentions}
use Rattle.dx_used.specs.Counting.{NewOnlyWhere, CountsCells, CellHasPlace, KeepMarks}
use Rattle.dx_used.proofs.marking.mark_cells.Given as goal

abbrev pub invariant-loop-column : goal.invariant-loop-column
invariant-loop-column l = record {
  marked : (d : Rule) → CountsCells (mentions d) l.counts → (i : ℕ) → i < l.column → slice_index_or l.marks i true ≡ false → IsIdle d (slice_index_or l.cells i (Lit []));
  asks : (d : Rule) → CountsCells (mentions d) l.counts → Each l.cells (CellHasPlace (length l.counts)) → NewOnlyWhere (AsksOfValue d l.cells) l.initial.marks l.marks;
  keep : KeepMarks l.initial.marks l.marks;
}
