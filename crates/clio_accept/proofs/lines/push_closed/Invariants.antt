use Rattle.std.proofs.Common.{◌≡◌, ◌++◌, List}
use Rattle.dx_model.specs.declared.rules.Rule.{Rule}
use Rattle.dx_schema.specs.Tables.{model_tables}
use Rattle.clio_accept.specs.Mapping.{AreClosings}
use Rattle.clio_accept.proofs.lines.push_closed.Given as goal

-- the closings of the rules so far stand after those that there were
abbrev pub invariant-loop-rule : goal.invariant-loop-rule
invariant-loop-rule l = (E : List Rule) × AreClosings (model_tables l.target) l.yielded E × (l.rules.items ≡ l.fn.rules.items ++ E)
