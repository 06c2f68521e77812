use Rattle.std.proofs.Common.{◌↔◌, ◌<◌, ℕ}
use Rattle.dx_base.specs.Members.{◌∈◌}
use Rattle.dx_eval.proofs.keeping.all_places.Given as goal

abbrev pub invariant-loop-place : goal.invariant-loop-place
invariant-loop-place l = (k : ℕ) → (k ∈ l.places.items) ↔ (k < l.place)
