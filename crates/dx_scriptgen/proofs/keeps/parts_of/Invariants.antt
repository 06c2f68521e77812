use Rattle.std.proofs.Common.{◌≡◌}
use Rattle.std.specs.Prelude.{map, flat_map}
use Rattle.std.specs.List.{filter}
use Rattle.dx_model.specs.Covers.{before, below, rule_at, used_maps}
use Rattle.dx_script.specs.Rewritten.{unless_of}
use Rattle.dx_scriptgen.proofs.keeps.parts_of.Given as goal

abbrev pub invariant-loop-j : goal.invariant-loop-j
invariant-loop-j l = l.parts ≡ flat_map (λ j. map (unless_of l.rules l.i j) (used_maps (rule_at l.rules l.i) (rule_at l.rules j))) (filter (λ j. before l.rules j l.i) (below l.j))
