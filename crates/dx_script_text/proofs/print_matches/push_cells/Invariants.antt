use Rattle.std.proofs.Common.{◌≡◌, ◌++◌, take, map, flat_map}
use Rattle.std.specs.Prelude.{codes, string_bytes}
use Rattle.dx_script_text.specs.Print.{cell_ref_text}
use Rattle.dx_script_text.proofs.print_matches.push_cells.Given as goal

abbrev pub invariant-loop-other : goal.invariant-loop-other
invariant-loop-other l = string_bytes l.out ≡ string_bytes l.initial.out ++ flat_map (λ other. codes ", " ++ other) (map cell_ref_text (take l.other-index l.others))
