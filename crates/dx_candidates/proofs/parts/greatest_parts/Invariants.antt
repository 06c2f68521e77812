use Rattle.std.proofs.Common.{◌≡◌, ◌++◌}
use Rattle.std.specs.Prelude.{map}
use Rattle.std.specs.List.{filter}
use Rattle.dx_schema.specs.Tables.{model_tables}
use Rattle.dx_logical.specs.Unfolding.{sub}
use Rattle.dx_lines.specs.Candidates.{upto}
use Rattle.dx_candidates.specs.Parts.{children, is_tip, without}
use Rattle.dx_candidates.proofs.parts.greatest_parts.Given as goal

abbrev pub invariant-loop-place : goal.invariant-loop-place
invariant-loop-place l =
    l.parts ≡ map (sub l.occurrences) (children l.occurrences) ++ map (without l.occurrences) (filter (is_tip (model_tables l.schema) l.occurrences) (upto l.place))
