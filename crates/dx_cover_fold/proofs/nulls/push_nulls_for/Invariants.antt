use Rattle.std.specs.Prelude.{◌↔◌, ◌⊎◌}
use Rattle.dx_base.specs.Members.{◌∈◌}
use Rattle.dx_model.specs.declared.values.NullId.{NullId}
use Rattle.dx_cover_fold.specs.Folding.{IsNullFor}
use Rattle.dx_cover_fold.proofs.nulls.push_nulls_for.Given as goal

abbrev pub invariant-loop-row : goal.invariant-loop-row
invariant-loop-row l = (n : NullId) → (n ∈ l.nulls.items) ↔ ((n ∈ l.initial.nulls.items) ⊎ IsNullFor l.rule l.var l.row n)
