-- What a chase makes of an instance receives it.
use Rattle.std.proofs.Common.{List}
use Rattle.dx_model.specs.Instances.{IsHomomorphism}
use Rattle.dx_model.specs.Tables.{Table}
use Rattle.dx_instance.specs.NullMaps.{pairs_of}
use Rattle.dx_instance.specs.Stored.{TableRows, facts}
use Rattle.dx_keys.specs.declared.answers.Chased.{Chased}
use Rattle.dx_keys.specs.Answers.{IsChased}
use Rattle.dx_keys.specs.Laws.{ChasedIsReceived}

received : (schema : List Table) (I : List TableRows) (c : Chased) → IsChased schema I c → IsHomomorphism (pairs_of c.map) (facts I) (facts c.instance)
received schema I c X = record { null_map = X.forced.null_map; inside = X.imaged.is.0 }

pub chased_is_received : ChasedIsReceived
chased_is_received schema I c X = record {
  homomorphism = received schema I c X;
  some = λ none. none (facts c.instance) (pairs_of c.map) X.keyed (received schema I c X);
}
