-- What is known of an instance's rigid nulls.
use Rattle.std.specs.Prelude.{List}
use Rattle.dx_base.specs.Members.{◌∈◌, Each}
use Rattle.dx_model.specs.declared.values.NullId.{NullId}
use Rattle.dx_model.specs.declared.values.Value.TheVariants.{Null}
use Rattle.dx_model.specs.declared.facts.Fact.{Fact}
use Rattle.dx_model.specs.Instances.{values}
use Rattle.dx_rigid.specs.Rigid.{IsRigid}
use Rattle.dx_rigid.specs.declared.rigid.RigidNulls.{RigidNulls}
use Rattle.dx_rigid.specs.declared.rigid.RigidNulls.TheVariants.{All, These}

-- every endomorphism of A keeps all nulls of A
abbrev pub AreRigid : List Fact → Type 0
AreRigid A = (n : NullId) → Null n ∈ values A → IsRigid A n

-- all nulls of A are rigid, or at least these
abbrev pub IsRigidPart : List Fact → RigidNulls → Type 0
IsRigidPart A All = AreRigid A
IsRigidPart A (These ns) = Each ns.items (IsRigid A)
