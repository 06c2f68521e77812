use Rattle.std.proofs.Common.{◌≡◌, take}
use Rattle.std.specs.Prelude.{map}
use Rattle.dx_lines.specs.Ways.{variable_at}
use Rattle.dx_ways.proofs.seen.variables_at.Given as goal

abbrev pub invariant-loop-place : goal.invariant-loop-place
invariant-loop-place l = l.variables.items ≡ map (variable_at (map (λ r. r.now) l.choice)) (take l.place-index l.places)
