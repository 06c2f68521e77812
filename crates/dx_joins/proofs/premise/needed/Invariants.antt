use Rattle.std.proofs.Common.{◌≤◌, ℕ, take, length}
use Rattle.dx_base.specs.Members.{◌∈◌, ◌⊆◌, Distinct, Each}
use Rattle.dx_joins.specs.Planning.{IsVariableNeeded}
use Rattle.dx_joins.proofs.premise.needed.Given as goal

abbrev pub invariant-loop-x : goal.invariant-loop-x
invariant-loop-x l = record {
  some : l.kept.items ⊆ l.names;
  only : Each l.kept.items (IsVariableNeeded l.later l.wanted);
  all : (x : ℕ) → x ∈ take l.x-index l.names → IsVariableNeeded l.later l.wanted x → x ∈ l.kept.items;
  once : Distinct l.kept.items;
  few : length l.kept.items ≤ l.x-index;
}
