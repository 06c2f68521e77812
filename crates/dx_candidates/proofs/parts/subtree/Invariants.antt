use Rattle.std.proofs.Common.{◌≡◌, ℕ, ◌<◌, get_or, true}
use Rattle.dx_logical.specs.declared.relation.Occurrence.{Occurrence}
use Rattle.dx_candidates.proofs.Subtree.{stands_behind}
use Rattle.dx_candidates.proofs.parts.subtree.Given as goal

abbrev pub invariant-loop-end : goal.invariant-loop-end
invariant-loop-end l = (d : Occurrence) (k : ℕ) → l.place < k → k < l.end → stands_behind l.place (get_or l.occurrences k d) ≡ true
