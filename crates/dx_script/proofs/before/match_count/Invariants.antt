use Rattle.std.proofs.Common.{◌≡◌, ℕ, ◌+◌, ◌≤◌, drop, length}
use Rattle.dx_script.specs.Fits.{match_widths}
use Rattle.dx_script.proofs.before.match_count.Given as goal

-- so many are made so far
pub record Counted (count total left at : ℕ) : Type 0 where
  pub all : count + left ≡ total
  pub few : count ≤ at

abbrev pub invariant-loop-step : goal.invariant-loop-step
invariant-loop-step l = Counted l.count (length (match_widths l.steps)) (length (match_widths (drop l.step-index l.steps))) l.step-index
