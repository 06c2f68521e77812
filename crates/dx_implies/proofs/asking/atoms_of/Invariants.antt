use Rattle.std.proofs.Common.{take}
use Rattle.std.specs.List.{AllZip}
use Rattle.dx_model.specs.Following.{frozen_text}
use Rattle.dx_implies.specs.Asking.{SaysAtom}
use Rattle.dx_implies.proofs.asking.atoms_of.Given as goal

abbrev pub invariant-loop-atom : goal.invariant-loop-atom
invariant-loop-atom l = AllZip (SaysAtom l.numbers.symbols (frozen_text l.prefix)) (take l.atom-index l.atoms) l.all.items
