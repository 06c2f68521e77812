use Rattle.std.specs.Prelude.{◌↔◌, ◌⊎◌}
use Rattle.dx_base.specs.Members.{◌∈◌}
use Rattle.dx_model.specs.declared.values.NullId.{NullId}
use Rattle.dx_cover_fold.specs.Folding.{IsNullOf}
use Rattle.dx_cover_fold.proofs.nulls.push_nulls_of.Given as goal

abbrev pub invariant-loop-var : goal.invariant-loop-var
invariant-loop-var l = (n : NullId) → (n ∈ l.nulls.items) ↔ ((n ∈ l.initial.nulls.items) ⊎ IsNullOf l.rule l.rows l.var n)
