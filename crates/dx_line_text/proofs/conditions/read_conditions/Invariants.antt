use Rattle.std.proofs.Common.{◌≡◌, map, take, drop}
use Rattle.dx_funcs.specs.Judging.{tested}
use Rattle.dx_base.specs.Firsts.{first_of}
use Rattle.dx_line_text.specs.Conditions.{condition_fault, condition_of}
use Rattle.dx_line_text.proofs.conditions.read_conditions.Given as goal

-- the conditions so far are read, and the first fault is that of the rest
abbrev pub invariant-loop-condition : goal.invariant-loop-condition
invariant-loop-condition g l =
    (l.read ≡ map (condition_of l.source (tested l.tests)) (take l.condition-index l.conditions))
    × (first_of (map (condition_fault l.source (tested l.tests)) l.conditions) ≡ first_of (map (condition_fault l.source (tested l.tests)) (drop l.condition-index l.conditions)))
