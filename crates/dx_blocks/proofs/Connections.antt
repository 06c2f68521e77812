-- Connected nulls.
use Rattle.std.proofs.Common.{◌≡◌, List, subst}
use Rattle.dx_base.specs.Members.{◌∈◌, ◌⊆◌}
use Rattle.dx_base.proofs.Members.{in_flat_map}
use Rattle.dx_model.specs.declared.values.NullId.{NullId}
use Rattle.dx_model.specs.declared.values.Value.TheVariants.{Null}
use Rattle.dx_model.specs.declared.facts.Fact.{Fact}
use Rattle.dx_model.specs.Instances.{values}
use Rattle.dx_model.specs.Blocks.{Connected, itself, onward}

module _ {A : List Fact} where
  -- nulls of one fact
  pub connected_by : {n m : NullId} (f : Fact) → f ∈ A → Null n ∈ f.row → Null m ∈ f.row → Connected A n m
  connected_by f i x y = onward f itself i x y

  pub connected_trans : {n m k : NullId} → Connected A n m → Connected A m k → Connected A n k
  connected_trans a itself = a
  connected_trans a (onward f b i x y) = onward f (connected_trans a b) i x y

  pub connected_sym : {n m : NullId} → Connected A n m → Connected A m n
  connected_sym itself = itself
  connected_sym (onward f b i x y) = connected_trans (connected_by f i y x) (connected_sym b)

-- what facts connect, more facts connect
pub connected_more : {A B : List Fact} {n m : NullId} → A ⊆ B → Connected A n m → Connected B n m
connected_more s itself = itself
connected_more s (onward f b i x y) = onward f (connected_more s b) (s f i) x y

pub connected_same : {A : List Fact} {n m : NullId} → n ≡ m → Connected A n m
connected_same {A} {n} {m} e = subst (Connected A n) e itself

-- what is connected with a null that stands there stands there too
pub connected_there : {A : List Fact} {n m : NullId} → Connected A n m → Null m ∈ values A → Null n ∈ values A
connected_there itself v = v
connected_there (onward f b i x y) v = connected_there b (in_flat_map (λ (g : Fact). g.row) i x)
