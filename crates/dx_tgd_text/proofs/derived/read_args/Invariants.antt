use Rattle.std.proofs.Common.{◌≡◌, map, take, drop}
use Rattle.dx_base.specs.Firsts.{first_of}
use Rattle.dx_tgd_text.specs.Reading.{arg_fault, arg_of}
use Rattle.dx_tgd_text.proofs.derived.read_args.Given as goal

-- the arguments so far are read, and the first fault is that of the rest
abbrev pub invariant-loop-arg : goal.invariant-loop-arg
invariant-loop-arg l =
    (l.read ≡ map (arg_of (take l.variables l.known)) (take l.arg-index l.args))
    × (first_of (map (arg_fault (take l.variables l.known) l.call) l.args) ≡ first_of (map (arg_fault (take l.variables l.known) l.call) (drop l.arg-index l.args)))
