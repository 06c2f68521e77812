use Rattle.std.proofs.Common.{◌≡◌, take}
use Rattle.std.specs.Prelude.{map}
use Rattle.dx_script.specs.Generated.{has_parts}
use Rattle.dx_scriptgen.proofs.generate.with_parts.Given as goal

abbrev pub invariant-loop-unless : goal.invariant-loop-unless
invariant-loop-unless l = l.kept.items ≡ map has_parts (take l.unless-index l.parts)
