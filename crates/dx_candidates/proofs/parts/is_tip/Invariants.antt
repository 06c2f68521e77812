use Rattle.std.proofs.Common.{◌≡◌, ℕ, ◌<◌, false}
use Rattle.dx_schema.specs.Tables.{model_tables}
use Rattle.dx_lines.specs.Parts.{is_open}
use Rattle.dx_candidates.proofs.parts.is_tip.Given as goal

-- no optional link leads to one of those so far
abbrev pub invariant-loop-inner : goal.invariant-loop-inner
invariant-loop-inner l = (n : ℕ) → l.place < n → n < l.inner → is_open (model_tables l.schema) l.occurrences n ≡ false
