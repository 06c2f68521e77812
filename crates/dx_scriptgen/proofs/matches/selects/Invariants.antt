use Rattle.std.proofs.Common.{◌≡◌, List, take}
use Rattle.std.specs.Prelude.{map}
use Rattle.dx_model.specs.Covers.{below}
use Rattle.dx_model.specs.Fitting.{premise_variables}
use Rattle.dx_funcs.specs.Serving.{offered}
use Rattle.dx_script.specs.Generated.{Spot, first_spot, select_of, shows}
use Rattle.dx_scriptgen.proofs.matches.selects.Given as goal

abbrev pub invariant-loop-variable : goal.invariant-loop-variable
invariant-loop-variable g l = (all : List Spot) → l.firsts ≡ map (λ y. shows (first_spot y all)) (below (premise_variables l.rule)) → l.selects ≡ map (select_of (offered l.host) all l.rule) (take l.variable-index l.variable-items)
