use Rattle.std.proofs.Common.{take}
use Rattle.dx_core.proofs.Atoms.{AreSoFar}
use Rattle.dx_core.proofs.asking.atoms_of.Given as goal

abbrev pub invariant-loop-at : goal.invariant-loop-at
invariant-loop-at l = AreSoFar l.numbers l.nulls l.taken (take l.at-index l.rows) l.atoms.items
