use Rattle.std.proofs.Common.{◌≡◌, ◌++◌, take, flat_map}
use Rattle.std.specs.Prelude.{string_bytes}
use Rattle.dx_schema_text.specs.Print.{ref_line}
use Rattle.dx_schema_text.proofs.print.push_refs.Given as goal

abbrev pub invariant-loop-reference : goal.invariant-loop-reference
invariant-loop-reference l = string_bytes l.out ≡ string_bytes l.fn.out ++ flat_map (ref_line l.margin) (take l.reference-index l.refs)
