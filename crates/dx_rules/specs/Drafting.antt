-- Between which unfoldings a rule can be drafted.
use Rattle.std.specs.Prelude.{◌≤◌, ◌*◌, List}
use Rattle.dx_base.specs.declared.limits.TheConstants.{OCCURRENCES, COLUMNS}
use Rattle.dx_base.specs.Members.{Each}
use Rattle.dx_model.specs.Tables.{AllInside}
use Rattle.dx_logical.specs.declared.relation.Relation.{Relation}
use Rattle.dx_lines.specs.declared.line.Line.{Line}
use Rattle.dx_lines.specs.Reading.{IsReached}

-- The target column of each line can be read at the occurrences of the target table's unfolding,
-- whose variables are fewer than it says;
-- and both unfoldings have at most as many variables as an unfolding can have.
pub record CanBeDrafted (lines : List Line) (S T : Relation) : Type 0 where
  pub reached : Each lines (IsReached T.occurrences)
  pub variables : Each T.occurrences (λ o. AllInside o.variables T.variables)
  pub few_of_source : S.variables ≤ OCCURRENCES * COLUMNS
  pub few_of_target : T.variables ≤ OCCURRENCES * COLUMNS
