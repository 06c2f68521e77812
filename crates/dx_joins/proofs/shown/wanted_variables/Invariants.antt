use Rattle.std.proofs.Common.{◌<◌, ◌≤◌, ℕ, length}
use Rattle.dx_base.specs.Members.{Each, ◌∈◌}
use Rattle.dx_joins.specs.Derivations.{IsVariableWanted}
use Rattle.dx_joins.proofs.shown.wanted_variables.Given as goal

abbrev pub invariant-loop-x : goal.invariant-loop-x
invariant-loop-x l = record {
  below : Each l.variables.items (λ y. y < l.x);
  all : (y : ℕ) → y < l.x → IsVariableWanted l.derived l.shown y → y ∈ l.variables.items;
  few : length l.variables.items ≤ l.x;
}
