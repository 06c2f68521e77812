use Rattle.std.proofs.Common.{◌≡◌, ◌≤◌, ℕ, take, vec_capacity}
use Rattle.dx_base.specs.Members.{◌∈◌, Each}
use Rattle.dx_model.specs.declared.values.Value.{Value}
use Rattle.dx_model.specs.Rules.{fact_of_atom}
use Rattle.dx_model.specs.Values.{Tuple}
use Rattle.dx_instance.specs.Stored.{facts}
use Rattle.dx_holds.specs.Searching.{texts}
use Rattle.dx_holds.proofs.room.satisfied.Given as goal

abbrev pub invariant-loop-place : goal.invariant-loop-place
invariant-loop-place l = record {
  found : l.room-inside.existentials ≤ vec_capacity l.room-inside.found;
  done : l.room-inside.atoms ≤ vec_capacity l.room-inside.done;
  atoms : l.room-inside.atoms ≡ l.fn.room.atoms;
  existentials : l.room-inside.existentials ≡ l.fn.room.existentials;
  held : Each (take {A = Tuple} l.place l.places.tuples) (λ t. (values : ℕ → Value) × Each l.rule.conclusion (λ a. fact_of_atom (texts l.rule.conclusion t) values a ∈ facts l.target));
}
