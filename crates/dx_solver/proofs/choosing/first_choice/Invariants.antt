use Rattle.std.proofs.Common.{take}
use Rattle.dx_base.specs.Members.{Each}
use Rattle.dx_solver.specs.Domains.{IsBound}
use Rattle.dx_solver.proofs.choosing.first_choice.Given as goal

abbrev pub invariant-loop-atom : goal.invariant-loop-atom
invariant-loop-atom l = Each (take l.atom l.atoms) (IsBound l.domains)
