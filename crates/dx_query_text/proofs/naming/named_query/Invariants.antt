use Rattle.std.proofs.Common.{◌≡◌, map, take, drop}
use Rattle.dx_base.specs.Firsts.{first_of}
use Rattle.dx_query_text.specs.Naming.{part_fault, part_of_text}
use Rattle.dx_query_text.proofs.naming.named_query.Given as goal

-- the parts so far are read, and the first fault is that of the rest
abbrev pub invariant-loop-part : goal.invariant-loop-part
invariant-loop-part l =
    (l.read ≡ map (part_of_text l.target) (take l.part-index l.parts))
    × (first_of (map (part_fault l.target l.width) l.parts) ≡ first_of (map (part_fault l.target l.width) (drop l.part-index l.parts)))
