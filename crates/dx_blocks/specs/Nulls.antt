-- The nulls of facts, and their places in a list.
use Rattle.std.specs.Prelude.{◌↔◌, ℕ, ◌<◌, List, [], ◌∷◌, flat_map, length}
use Rattle.dx_base.specs.Members.{◌∈◌}
use Rattle.dx_model.specs.declared.values.NullId.{NullId}
use Rattle.dx_model.specs.declared.values.Value.{Value}
use Rattle.dx_model.specs.declared.values.Value.TheVariants.{Const, Null}
use Rattle.dx_model.specs.declared.facts.Fact.{Fact}
use Rattle.dx_model.specs.Values.{NullsAscend, null_at}
use Rattle.dx_model.specs.Instances.{values}

-- the null that a value is
abbrev pub null_in : Value → List NullId
null_in (Const t) = []
null_in (Null n) = n ∷ []

-- the nulls of a row
abbrev pub row_nulls : List Value → List NullId
row_nulls row = flat_map null_in row

-- ns has the nulls of A, each once
pub record AreNulls (A : List Fact) (ns : List NullId) : Type 0 where
  pub ascend : NullsAscend ns
  pub exactly : (n : NullId) → (n ∈ ns) ↔ (Null n ∈ values A)

-- each null of the row is listed
abbrev pub AllKnown : List NullId → List Value → Type 0
AllKnown ns row = (n : NullId) → Null n ∈ row → n ∈ ns

-- ns ascends, and has each null of the row
pub record KnowsNulls (ns : List NullId) (row : List Value) : Type 0 where
  pub ascend : NullsAscend ns
  pub known : AllKnown ns row

-- the null at a place stands in the row
pub record StandsIn (ns : List NullId) (row : List Value) (k : ℕ) : Type 0 where
  pub within : k < length ns
  pub there : Null (null_at ns k) ∈ row
