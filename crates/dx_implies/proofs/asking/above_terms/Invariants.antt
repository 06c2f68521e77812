use Rattle.std.proofs.Common.{◌≡◌, ◌<◌, ◌≤◌, ℕ, take}
use Rattle.dx_base.specs.Members.{Each}
use Rattle.dx_solver.specs.declared.atom.Term.TheVariants.{Variable}
use Rattle.dx_implies.proofs.asking.above_terms.Given as goal

abbrev pub invariant-loop-term : goal.invariant-loop-term
invariant-loop-term l = record {
  least : l.fn.least ≤ l.above;
  above : Each (take l.term-index l.terms) (λ z. (v : ℕ) → z ≡ Variable v → v < l.above);
}
