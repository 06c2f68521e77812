use Rattle.std.proofs.Common.{◌≡◌, ◌++◌, take, flat_map}
use Rattle.std.specs.Prelude.{codes, string_bytes}
use Rattle.dx_script_text.specs.Print.{texts_from, source_alias_text}
use Rattle.dx_script_text.proofs.print_matches.push_sources.Given as goal

abbrev pub invariant-loop-other : goal.invariant-loop-other
invariant-loop-other l =
    (l.number ≡ l.other-index)
    × (string_bytes l.out ≡ string_bytes l.initial.out ++ flat_map (λ other. codes ", " ++ other) (texts_from source_alias_text 1 (take l.other-index l.others)))
