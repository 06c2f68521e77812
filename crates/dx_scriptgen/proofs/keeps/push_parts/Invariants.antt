use Rattle.std.proofs.Common.{◌≡◌, ◌++◌, take}
use Rattle.std.specs.Prelude.{map}
use Rattle.dx_model.specs.Covers.{rule_at, used_maps}
use Rattle.dx_script.specs.Rewritten.{unless_of}
use Rattle.dx_scriptgen.proofs.keeps.push_parts.Given as goal

abbrev pub invariant-loop-map : goal.invariant-loop-map
invariant-loop-map l = l.parts ≡ l.initial.parts ++ map (unless_of l.rules l.i l.j) (take l.map-index (used_maps (rule_at l.rules l.i) (rule_at l.rules l.j)))
