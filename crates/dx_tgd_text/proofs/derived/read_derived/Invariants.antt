use Rattle.std.proofs.Common.{◌≡◌, ◌++◌, map, take, drop}
use Rattle.dx_funcs.specs.Serving.{offered}
use Rattle.dx_tgd_text.specs.Reading.{derived_faults, derived_names, derived_of_text}
use Rattle.dx_tgd_text.proofs.derived.read_derived.Given as goal

-- the variables so far are read and known, and the first fault is that of the rest
abbrev pub invariant-loop-variable : goal.invariant-loop-variable
invariant-loop-variable g l =
    (l.read ≡ map (derived_of_text (offered l.host) l.fn.known) (take l.variable-index l.derived))
    × (l.known ≡ l.fn.known ++ derived_names (take l.variable-index l.derived))
    × (derived_faults (offered l.host) l.fn.known l.fn.known l.derived ≡ derived_faults (offered l.host) l.fn.known l.known (drop l.variable-index l.derived))
