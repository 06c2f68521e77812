use Rattle.std.proofs.Common.{◌≡◌, map, take, drop}
use Rattle.dx_funcs.specs.Serving.{offered}
use Rattle.dx_base.specs.Firsts.{first_of}
use Rattle.dx_line_text.specs.Naming.{line_fault, line_of_text}
use Rattle.dx_line_text.proofs.lines.read_lines.Given as goal

-- the lines so far are read, and the first fault is that of the rest
abbrev pub invariant-loop-line : goal.invariant-loop-line
invariant-loop-line g l =
    (l.read ≡ map (line_of_text l.source l.target (offered l.host)) (take l.line-index l.lines))
    × (first_of (map (line_fault l.source l.target (offered l.host)) l.lines) ≡ first_of (map (line_fault l.source l.target (offered l.host)) (drop l.line-index l.lines)))
