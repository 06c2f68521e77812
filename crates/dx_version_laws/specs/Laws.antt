-- What texts of the earlier versions say.
use Rattle.std.specs.Prelude.{◌≡◌, ◌<◌, ℕ, List, []}
use Rattle.dx_base.specs.Members.{Each}
use Rattle.dx_schema.specs.Forest.{Forest}
use Rattle.dx_schema.specs.Tables.{model_tables, tables_of}
use Rattle.dx_schema_text.specs.declared.texts.MappingText.{MappingText}
use Rattle.dx_schema_text.specs.Texts.{IsMappingText}
use Rattle.dx_logical.specs.Laws.{HasNoOptional}

-- no table of a schema has a dependency: what its tables determine, they determine by keys
abbrev pub HasNoDependency : Forest → Type 0
HasNoDependency f = Each (tables_of f) (λ t. t.deps ≡ [])

-- a mapping that has no dependency
pub record HasKeysAlone (m : MappingText) : Type 0 where
  pub source : HasNoDependency m.source
  pub target : HasNoDependency m.target

-- a mapping that has no optional link, no condition and no dependency
pub record IsPlainMapping (m : MappingText) : Type 0 where
  pub source : HasNoOptional (model_tables m.source)
  pub target : HasNoOptional (model_tables m.target)
  pub conditions : m.conditions ≡ []
  pub keys : HasKeysAlone m

-- each text of version 1 says one
abbrev pub FirstVersionIsPlain : Type 0
FirstVersionIsPlain = (text : List ℕ) (m : MappingText) → IsMappingText text m → m.version ≡ 1 → IsPlainMapping m

-- each text of a version before 3 says a mapping that has no dependency
abbrev pub EarlierHaveKeysAlone : Type 0
EarlierHaveKeysAlone = (text : List ℕ) (m : MappingText) → IsMappingText text m → m.version < 3 → HasKeysAlone m
