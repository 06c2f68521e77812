-- The cover fold as a null map.
use Rattle.std.specs.Prelude.{◌≡◌, ℕ, ◌<◌, List}
use Rattle.dx_model.specs.declared.values.NullId.{NullId}
use Rattle.dx_model.specs.declared.values.Value.TheVariants.{Null}
use Rattle.dx_model.specs.declared.rules.Rule.{Rule}
use Rattle.dx_model.specs.Rules.{cells_of}
use Rattle.dx_model.specs.Values.{Rows}
use Rattle.dx_model.specs.Covers.{IsPlace, after_existential, cover_fold, rule_at}
use Rattle.dx_instance.specs.NullMaps.{ByNull, becomes}

-- the null of an existential variable of a rule, at one of its places
pub record IsPlaceNull (R : List Rule) (rows : Rows) (n : NullId) : Type 0 where
  pub place : IsPlace R rows n.rule n.row
  pub variable : n.var < after_existential (cells_of (rule_at R n.rule).conclusion)

-- the null of an existential variable of a rule, at one of its first places
pub record IsNullFor (rule var rows : ℕ) (n : NullId) : Type 0 where
  pub rule_is : n.rule ≡ rule
  pub var_is : n.var ≡ var
  pub place : n.row < rows

-- and of one of its first existential variables
pub record IsNullOf (rule rows count : ℕ) (n : NullId) : Type 0 where
  pub rule_is : n.rule ≡ rule
  pub place : n.row < rows
  pub below : n.var < count

-- the nulls of all places become what the cover fold makes of them, and all others stay
pub record IsCoverFold (R : List Rule) (rows : Rows) (m : ByNull) : Type 0 where
  pub folds : (n : NullId) → IsPlaceNull R rows n → becomes m n ≡ cover_fold R rows n
  pub stays : (n : NullId) → ¬ (IsPlaceNull R rows n) → becomes m n ≡ Null n
