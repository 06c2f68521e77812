use Rattle.std.proofs.Common.{◌≡◌, []}
use Rattle.std.specs.Prelude.{map}
use Rattle.dx_model.specs.Covers.{below}
use Rattle.dx_scriptgen.proofs.generate.no_parts.Given as goal

abbrev pub invariant-loop-rule : goal.invariant-loop-rule
invariant-loop-rule l = l.parts.items ≡ map (λ r. []) (below l._rule)
