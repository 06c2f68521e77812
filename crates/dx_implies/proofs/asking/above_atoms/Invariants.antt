use Rattle.std.proofs.Common.{◌<◌, ℕ, take}
use Rattle.dx_base.specs.Members.{◌∈◌, Each}
use Rattle.dx_solver.specs.declared.atom.Term.TheVariants.{Variable}
use Rattle.dx_solver.specs.declared.atom.PatternAtom.{PatternAtom}
use Rattle.dx_implies.proofs.asking.above_atoms.Given as goal

abbrev pub invariant-loop-atom : goal.invariant-loop-atom
invariant-loop-atom l = Each (take l.atom-index l.atoms) (λ (p : PatternAtom). (v : ℕ) → Variable v ∈ p.terms → v < l.above)
