-- What the key chase of an instance answers.
use Rattle.std.specs.Prelude.{◌≡◌, ◌<◌, List, length}
use Rattle.std.specs.declared.cmp.Ordering.TheVariants.{Less}
use Rattle.dx_model.specs.declared.facts.Fact.{Fact}
use Rattle.dx_model.specs.Tables.{IsKeyed, Table, table_of, determination_at, fact_of_row}
use Rattle.dx_model.specs.Values.{row_cmp}
use Rattle.dx_model.specs.Chase.{after, AreSteps, IsClashAt, IsForcedMap, NoneReceives}
use Rattle.dx_instance.specs.NullMaps.{pairs_of}
use Rattle.dx_instance.specs.Stored.{TableRows, facts}
use Rattle.dx_instance.specs.Images.{IsImage}
use Rattle.dx_keys.specs.declared.answers.Chased.{Chased}
use Rattle.dx_keys.specs.declared.answers.Clash.{Clash}
use Rattle.dx_keys.specs.declared.fault.ChaseFault.{ChaseFault}
use Rattle.dx_keys.specs.declared.fault.ChaseFault.TheVariants.{Clash as IsOf, Memory}

-- The chase of an instance: the map is its forced map, and what is answered is its image under the map, of the same
-- widths and with ascending rows; keys hold in it.
pub record IsChased (schema : List Table) (I : List TableRows) (c : Chased) : Type 0 where
  pub forced : IsForcedMap schema (facts I) (pairs_of c.map)
  pub imaged : IsImage c.map I c.instance
  pub keyed : IsKeyed schema (facts c.instance)

-- A clash of an instance: key steps, one after the other; of what they leave two facts, the lesser first, that agree
-- on the left of a determination and have two constants in a column of its right.
-- Nothing in which keys hold receives the instance.
pub record IsClash (schema : List Table) (A : List Fact) (c : Clash) : Type 0 where
  pub steps : AreSteps schema A c.steps
  pub key : c.key < length (table_of schema c.table).determinations
  pub clash : IsClashAt schema (after c.steps A) (fact_of_row c.table c.left)
      (fact_of_row c.table c.right) (determination_at schema c.table c.key) c.column
  pub lesser : row_cmp c.left c.right ≡ Less
  pub none : NoneReceives schema A

-- why an instance has no chase
abbrev pub IsChaseFault : List Table → List TableRows → ChaseFault → Type 0
IsChaseFault schema I (IsOf c) = IsClash schema (facts I) c
IsChaseFault schema I Memory = Unit {0}
