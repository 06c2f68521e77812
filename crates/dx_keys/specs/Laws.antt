-- What the chase makes of an instance receives it.
use Rattle.std.specs.Prelude.{List}
use Rattle.dx_model.specs.Instances.{IsHomomorphism}
use Rattle.dx_model.specs.Tables.{Table}
use Rattle.dx_model.specs.Chase.{NoneReceives}
use Rattle.dx_instance.specs.NullMaps.{pairs_of}
use Rattle.dx_instance.specs.Stored.{TableRows, facts}
use Rattle.dx_keys.specs.declared.answers.Chased.{Chased}
use Rattle.dx_keys.specs.Answers.{IsChased}

-- what the chase makes of an instance receives it by the map, so that some instance in which keys hold receives it
pub record IsReceived (schema : List Table) (I : List TableRows) (c : Chased) : Type 0 where
  pub homomorphism : IsHomomorphism (pairs_of c.map) (facts I) (facts c.instance)
  pub some : ¬ (NoneReceives schema (facts I))

abbrev pub ChasedIsReceived : Type 0
ChasedIsReceived = (schema : List Table) (I : List TableRows) (c : Chased) → IsChased schema I c → IsReceived schema I c
