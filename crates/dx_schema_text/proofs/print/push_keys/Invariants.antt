use Rattle.std.proofs.Common.{◌≡◌, ◌++◌, take, flat_map}
use Rattle.std.specs.Prelude.{string_bytes}
use Rattle.dx_schema_text.specs.Print.{key_line}
use Rattle.dx_schema_text.proofs.print.push_keys.Given as goal

abbrev pub invariant-loop-key : goal.invariant-loop-key
invariant-loop-key l = string_bytes l.out ≡ string_bytes l.fn.out ++ flat_map (key_line l.margin) (take l.key-index l.keys)
