use Rattle.std.proofs.Common.{◌≡◌, map, take, drop}
use Rattle.dx_base.specs.Firsts.{first_of}
use Rattle.dx_tgd_text.specs.Reading.{atom_fault, atom_of_text}
use Rattle.dx_tgd_text.proofs.atoms.read_atoms.Given as goal

-- the atoms so far are read, and the first fault is that of the rest
abbrev pub invariant-loop-atom : goal.invariant-loop-atom
invariant-loop-atom l =
    (l.read ≡ map (atom_of_text l.schema l.known l.fresh) (take l.atom-index l.atoms))
    × (first_of (map (atom_fault l.schema) l.atoms) ≡ first_of (map (atom_fault l.schema) (drop l.atom-index l.atoms)))
