use Rattle.std.proofs.Common.{◌≡◌, drop}
use Rattle.std.specs.Prelude.{map}
use Rattle.dx_lines.specs.Ways.{variable_at}
use Rattle.dx_ways.proofs.seen.variable_at.Given as goal

abbrev pub invariant-loop-occurrence : goal.invariant-loop-occurrence
invariant-loop-occurrence l = variable_at (map (λ r. r.now) (drop l.occurrence-index l.choice)) l.place ≡ variable_at (map (λ r. r.now) l.choice) l.place
