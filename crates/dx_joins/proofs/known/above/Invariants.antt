use Rattle.std.proofs.Common.{◌<◌, ◌≤◌, take}
use Rattle.dx_base.specs.Members.{Each}
use Rattle.dx_joins.proofs.known.above.Given as goal

abbrev pub invariant-loop-variable : goal.invariant-loop-variable
invariant-loop-variable l = record {
  least : l.fn.least ≤ l.above;
  above : Each (take l.variable-index l.variables) (λ x. x < l.above);
}
