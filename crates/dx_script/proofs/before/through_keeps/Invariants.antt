use Rattle.std.proofs.Common.{◌≡◌, ℕ, ◌≤◌, List, length, take}
use Rattle.dx_script.specs.declared.form.Step.{Step}
use Rattle.dx_script.specs.Fits.{rules_with_keep}
use Rattle.dx_script.proofs.before.through_keeps.Given as goal

-- the steps up to this end make the same keep tables as those so far
pub record Ends (end at : ℕ) (steps : List Step) : Type 0 where
  pub within : end ≤ at
  pub inside : at ≤ length steps
  pub same : rules_with_keep (take end steps) ≡ rules_with_keep (take at steps)

abbrev pub invariant-loop-number : goal.invariant-loop-number
invariant-loop-number l = Ends l.end l.number l.steps
