use Rattle.std.proofs.Common.{◌≡◌, ◌++◌}
use Rattle.std.specs.Prelude.{map}
use Rattle.std.specs.List.{filter}
use Rattle.dx_logical.specs.Unfolding.{sub}
use Rattle.dx_lines.specs.Candidates.{upto}
use Rattle.dx_candidates.specs.Parts.{is_child}
use Rattle.dx_candidates.proofs.parts.add_subtrees.Given as goal

abbrev pub invariant-loop-place : goal.invariant-loop-place
invariant-loop-place l = l.parts ≡ l.initial.parts ++ map (sub l.occurrences) (filter (is_child l.occurrences) (upto l.place))
