use Rattle.std.proofs.Common.{◌≡◌, ◌++◌, take, map, flat_map}
use Rattle.std.specs.Prelude.{codes, string_bytes}
use Rattle.dx_script_text.specs.Print.{test_text}
use Rattle.dx_script_text.proofs.print_keeps.push_tests.Given as goal

abbrev pub invariant-loop-other : goal.invariant-loop-other
invariant-loop-other l = string_bytes l.out ≡ string_bytes l.initial.out ++ flat_map (λ other. codes " AND " ++ other) (map test_text (take l.other-index l.others))
