use Rattle.std.proofs.Common.{◌≡◌, ◌≤◌, length, drop}
use Rattle.std.specs.Prelude.{map}
use Rattle.dx_lines.specs.Ways.{pick}
use Rattle.dx_ways.specs.Tried.{put_all}
use Rattle.dx_ways.proofs.trying.add_term.Given as goal

abbrev pub invariant-loop-variable : goal.invariant-loop-variable
invariant-loop-variable l = record {
  same : put_all l.found.items (map (λ y. pick y l.term) (drop l.variable-index l.variables)) ≡ put_all l.initial.found.items (map (λ y. pick y l.term) l.variables);
  few : length l.found.items ≤ 64;
}
