-- Mappings between small schemas: which have keys alone, and which are plain.
use Rattle.std.proofs.Common.{zero, suc, true, List, [], ◌∷◌, refl}
use Rattle.dx_base.specs.Members.{here, there}
use Rattle.dx_base.specs.Texts.{Text}
use Rattle.dx_schema.specs.Forest.{Forest, none, set}
use Rattle.dx_schema.specs.Tables.{model_tables}
use Rattle.dx_logical.specs.Laws.{HasNoOptional}
use Rattle.dx_schema_text.specs.declared.texts.MappingText.{MappingText}
use Rattle.dx_schema_text.specs.declared.texts.OnlyText.{OnlyText}
use Rattle.dx_version_laws.specs.Laws.{HasNoDependency, HasKeysAlone, IsPlainMapping}

abbrev a : Text
a = 97 ∷ []

abbrev b : Text
b = 98 ∷ []

-- a(a, b), in which a is a key
abbrev keyed : Forest
keyed =
    set (record {
      name = a;
      columns = a ∷ b ∷ [];
      keys = record { columns = a ∷ [] } ∷ [];
      deps = [];
      refs = [];
    }) none none

-- a(a, b), in which a decides b
abbrev decided : Forest
decided =
    set (record {
      name = a;
      columns = a ∷ b ∷ [];
      keys = [];
      deps = record { columns = a ∷ []; decides = b ∷ [] } ∷ [];
      refs = [];
    }) none none

-- a(a, b), which may refer to itself
abbrev referring : Forest
referring =
    set (record {
      name = a;
      columns = a ∷ b ∷ [];
      keys = [];
      deps = [];
      refs = record { columns = b ∷ []; set = a; referred = a ∷ []; optional = true } ∷ [];
    }) none none

keyed_has_no_dependency : HasNoDependency keyed
keyed_has_no_dependency t (here e) = rw (← e) refl
keyed_has_no_dependency t (there m) = elim m [ ]

decided_has_one : ¬ (HasNoDependency decided)
decided_has_one h = let e = h _ (here refl) in absurd cc

-- a mapping between two schemas, with these conditions
abbrev between : Forest → Forest → List OnlyText → MappingText
between source target conditions = record {
  version = 1;
  source = source;
  target = target;
  lines = [];
  conditions = conditions;
  rules = [];
}

keys_alone : HasKeysAlone (between keyed keyed [])
keys_alone = record { source = keyed_has_no_dependency; target = keyed_has_no_dependency }

no_dependent_source : ¬ (HasKeysAlone (between decided keyed []))
no_dependent_source k = decided_has_one k.source

no_dependent_target : ¬ (HasKeysAlone (between keyed decided []))
no_dependent_target k = decided_has_one k.target

keyed_has_no_optional : HasNoOptional (model_tables keyed)
keyed_has_no_optional zero = refl
keyed_has_no_optional (suc t) = refl

plain : IsPlainMapping (between keyed keyed [])
plain = record { source = keyed_has_no_optional; target = keyed_has_no_optional; conditions = refl; keys = keys_alone }

no_dependency : ¬ (IsPlainMapping (between keyed decided []))
no_dependency p = no_dependent_target p.keys

no_optional_link : ¬ (HasNoOptional (model_tables referring))
no_optional_link h = let e = h 0 in absurd cc

no_referring_source : ¬ (IsPlainMapping (between referring keyed []))
no_referring_source p = no_optional_link p.source

no_referring_target : ¬ (IsPlainMapping (between keyed referring []))
no_referring_target p = no_optional_link p.target

no_condition : (c : OnlyText) → ¬ (IsPlainMapping (between keyed keyed (c ∷ [])))
no_condition c p = let e = p.conditions in absurd cc
