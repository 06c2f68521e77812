use Rattle.std.proofs.Common.{take}
use Rattle.std.specs.List.{AllZip}
use Rattle.dx_instance.specs.Numbers.{Extends}
use Rattle.dx_tgd.specs.Planned.{IsPlannedAtom}
use Rattle.dx_tgd.proofs.planning.planned_atoms.Given as goal

abbrev pub invariant-loop-atom : goal.invariant-loop-atom
invariant-loop-atom l = record { planned : AllZip (IsPlannedAtom l.symbols l.at.rule l.at.variables.now l.at.places) l.planned.items (take l.atom-index l.atoms); grows : Extends l.fn.symbols l.symbols }
