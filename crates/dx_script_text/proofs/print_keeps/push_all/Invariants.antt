use Rattle.std.proofs.Common.{◌≡◌, ◌++◌, take, map, flat_map}
use Rattle.std.specs.Prelude.{codes, string_bytes}
use Rattle.dx_script_text.specs.Print.{unless_text}
use Rattle.dx_script_text.proofs.print_keeps.push_all.Given as goal

abbrev pub invariant-loop-other : goal.invariant-loop-other
invariant-loop-other l = string_bytes l.out ≡ string_bytes l.initial.out ++ flat_map (λ other. codes " AND " ++ other) (map unless_text (take l.other-index l.others))
