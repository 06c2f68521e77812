use Rattle.std.proofs.Common.{◌≡◌, ◌++◌, take, flat_map}
use Rattle.std.specs.Prelude.{string_bytes}
use Rattle.dx_schema_text.specs.Print.{dep_line}
use Rattle.dx_schema_text.proofs.print.push_deps.Given as goal

abbrev pub invariant-loop-dep : goal.invariant-loop-dep
invariant-loop-dep l = string_bytes l.out ≡ string_bytes l.fn.out ++ flat_map (dep_line l.margin) (take l.dep-index l.deps)
