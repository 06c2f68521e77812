-- Every chase ends: with the forced map, or with a clash.
use Rattle.std.specs.Prelude.{◌⊎◌, ℕ, ◌≤◌, List, length}
use Rattle.dx_model.specs.declared.facts.Fact.{Fact}
use Rattle.dx_model.specs.declared.facts.NullPair.{NullPair}
use Rattle.dx_model.specs.Tables.{Table, Determination, IsInstance, KeysHold}
use Rattle.dx_model.specs.Instances.{image, values}
use Rattle.dx_model.specs.Chase.{after, AreSteps, IsClashAt, IsForcedMap}
use Rattle.dx_keys.specs.declared.answers.Clash.{Clash}
use Rattle.dx_keys.specs.Answers.{IsClash}

-- a forced map, in whose image keys hold
pub record EndsInMap (schema : List Table) (A : List Fact) : Type 0 where
  pub map : List NullPair
  pub forced : IsForcedMap schema A map
  pub keys : KeysHold schema (image map A)

-- key steps, one after the other, and a clash of what they leave
pub record EndsInClash (schema : List Table) (A : List Fact) : Type 0 where
  pub steps : List NullPair
  pub a : Fact
  pub b : Fact
  pub d : Determination
  pub c : ℕ
  pub are_steps : AreSteps schema A steps
  pub clash : IsClashAt schema (after steps A) a b d c

-- key steps, one after the other, are at most as many as the instance has values
abbrev pub StepsAreFew : Type 0
StepsAreFew =
    (schema : List Table) (A : List Fact) (steps : List NullPair) → IsInstance schema A
    → AreSteps schema A steps → length steps ≤ length (values A)

-- each instance of the schema has the one or the other
abbrev pub EveryChaseEnds : Type 0
EveryChaseEnds = (schema : List Table) (A : List Fact) → IsInstance schema A → EndsInMap schema A ⊎ EndsInClash schema A

-- and not both
abbrev pub EndsOnce : Type 0
EndsOnce = (schema : List Table) (A : List Fact) → IsInstance schema A → EndsInMap schema A → ¬ (EndsInClash schema A)

-- each clash has a form in which the chase answers it: by its rows, the lesser first,
-- and the number of its determination
abbrev pub ClashHasAnswer : Type 0
ClashHasAnswer = (schema : List Table) (A : List Fact) → EndsInClash schema A → (c : Clash) × IsClash schema A c

-- each instance of the schema has a forced map, in whose image keys hold, or a clash that the chase may answer
abbrev pub EveryChaseAnswers : Type 0
EveryChaseAnswers =
    (schema : List Table) (A : List Fact) → IsInstance schema A
    → EndsInMap schema A ⊎ ((c : Clash) × IsClash schema A c)
