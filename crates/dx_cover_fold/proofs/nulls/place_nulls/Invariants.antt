use Rattle.std.proofs.Common.{◌<◌}
use Rattle.std.specs.Prelude.{◌↔◌}
use Rattle.dx_base.specs.Members.{◌∈◌}
use Rattle.dx_model.specs.declared.values.NullId.{NullId}
use Rattle.dx_cover_fold.specs.Folding.{IsPlaceNull}
use Rattle.dx_cover_fold.specs.Matched.{matched_tuples}
use Rattle.dx_cover_fold.proofs.nulls.place_nulls.Given as goal

abbrev pub invariant-loop-rule : goal.invariant-loop-rule
invariant-loop-rule l = (n : NullId) → (n ∈ l.nulls.items) ↔ ((n.rule < l.rule) × IsPlaceNull l.rules (matched_tuples l.matches) n)
