use Rattle.std.proofs.Common.{◌≡◌, ◌≤◌, ◌^◌, drop, max}
use Rattle.dx_model.specs.Covers.{after_existential}
use Rattle.dx_cover_fold.proofs.nulls.after.Given as goal

abbrev pub invariant-loop-cell : goal.invariant-loop-cell
invariant-loop-cell l = (max l.next (after_existential (drop l.cell-index l.cells)) ≡ max l.least (after_existential l.cells)) × (l.next ≤ 2 ^ 32)
