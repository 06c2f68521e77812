use Rattle.std.proofs.Common.{◌≡◌, take}
use Rattle.std.specs.Prelude.{map}
use Rattle.dx_eval.specs.Variables.{renamed}
use Rattle.dx_eval.proofs.variables.row_renamed.Given as goal

abbrev pub invariant-loop-x : goal.invariant-loop-x
invariant-loop-x l = l.new ≡ map (renamed l.kept l.gone l.last) (take l.x-index l.row)
