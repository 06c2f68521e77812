use Rattle.std.proofs.Common.{◌≡◌}
use Rattle.std.specs.Prelude.{map}
use Rattle.dx_model.specs.Covers.{below}
use Rattle.dx_script.specs.Rewritten.{unless_parts}
use Rattle.dx_scriptgen.proofs.keeps.all_parts.Given as goal

abbrev pub invariant-loop-i : goal.invariant-loop-i
invariant-loop-i l = l.parts.items ≡ map (unless_parts l.rules) (below l.i)
