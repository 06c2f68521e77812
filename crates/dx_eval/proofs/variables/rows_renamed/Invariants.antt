use Rattle.std.proofs.Common.{◌≡◌, take}
use Rattle.std.specs.Prelude.{map}
use Rattle.dx_eval.specs.Variables.{renamed}
use Rattle.dx_eval.proofs.variables.rows_renamed.Given as goal

abbrev pub invariant-loop-row : goal.invariant-loop-row
invariant-loop-row l = l.new.items ≡ map (map (renamed l.kept l.gone l.last)) (take l.row-index l.rows)
