-- The homomorphism that is sought, and what a search has found of it.
use Rattle.std.specs.Prelude.{◌≡◌, ◌↔◌, List, map, Option, Some}
use Rattle.std.specs.FinMap as finite
use Rattle.dx_base.specs.Members.{◌∈◌, Distinct, Each}
use Rattle.dx_model.specs.declared.values.NullId.{NullId}
use Rattle.dx_model.specs.declared.values.Value.{Value}
use Rattle.dx_model.specs.declared.values.Value.TheVariants.{Null}
use Rattle.dx_model.specs.declared.facts.Fact.{Fact}
use Rattle.dx_model.specs.declared.facts.NullPair.{NullPair}
use Rattle.dx_model.specs.Instances.{IsHomomorphism, IsNullMap, given, image, values}
use Rattle.dx_instance.specs.NullMaps.{ByNull}
use Rattle.dx_instance.specs.Stored.{TableRows, facts}
use Rattle.dx_hom.specs.declared.matching.Found.{Found}
use Rattle.dx_hom.specs.Narrowing.{IsNullCell, found_nulls, null_value}

-- a homomorphism from F to B that gives the fixed nulls their values, and whose image lacks the fact to avoid
pub record IsSought (fixed : ByNull) (avoid : Option Fact) (F B : List Fact) (h : List NullPair) : Type 0 where
  pub homomorphism : IsHomomorphism h F B
  pub keeps : (n : NullId) (v : Value) → finite.get fixed n ≡ Some v → given h n ≡ v
  pub avoids : (f : Fact) → avoid ≡ Some f → ¬ (f ∈ image h F)

-- there is one
abbrev pub IsThere : ByNull → Option Fact → List Fact → List Fact → Type 0
IsThere fixed avoid F B = (h : List NullPair) × IsSought fixed avoid F B h

-- each null that was found with the value of its cell
abbrev pub found_pairs : List TableRows → List Found → List NullPair
found_pairs I found = map (λ (b : Found). record { null = b.null; value = null_value I b }) found

-- each null of F was found once, in a cell of the instance;
-- a null map that gives them the values of their cells is sought
pub record IsNullAssignment (I : List TableRows) (fixed : ByNull) (avoid : Option Fact) (F : List Fact)
    (found : List Found) : Type 0 where
  pub once : Distinct (found_nulls found)
  pub nulls : (n : NullId) → (n ∈ found_nulls found) ↔ (Null n ∈ values F)
  pub cells : Each found (IsNullCell I)
  pub gives : (h : List NullPair) → IsNullMap h
      → ((n : NullId) → Null n ∈ values F → given h n ≡ given (found_pairs I found) n)
      → IsSought fixed avoid F (facts I) h
