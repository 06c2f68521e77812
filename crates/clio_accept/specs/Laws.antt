-- What holds of accepted mappings.
use Rattle.std.specs.Prelude.{◌≡◌, ◌≤◌, ◌<◌, ◌-◌, ◌^◌, ℕ, List, length}
use Rattle.dx_base.specs.declared.limits.TheConstants.{RULES}
use Rattle.dx_base.specs.Members.{Each}
use Rattle.dx_model.specs.Solutions.{IsClosed}
use Rattle.dx_model.specs.Fitting.{RuleFits}
use Rattle.dx_stages.specs.Worlds.{World}
use Rattle.dx_stages.specs.Laws.{IsDecided, PassesOne}
use Rattle.dx_schema.specs.Tables.{model_tables}
use Rattle.dx_schema.specs.Links.{IsFaultless}
use Rattle.dx_funcs.specs.declared.conversion.Conversion.{Conversion}
use Rattle.dx_funcs.specs.declared.row_test.RowTest.{RowTest}
use Rattle.dx_funcs.specs.Offers.{IsListed}
use Rattle.dx_schema_text.specs.Print.{HaveWordNames}
use Rattle.dx_lines.specs.Limits.{IsSchemaColumn}
use Rattle.dx_line_text.specs.Conditions.{ConditionIsListed}
use Rattle.dx_rule_text.specs.Printed.{AtomsWithin}
use Rattle.clio_accept.specs.declared.mapping.Mapping.{Mapping}
use Rattle.clio_accept.specs.Accepting.{accepting}
use Rattle.clio_accept.specs.Mapping.{NoneReserved}

-- Both schemas are faultless and their names are words; each condition is about a column of the source and has a
-- listed row test; not too many rules are left; each fits the schemas, is closed under the links of the target, and
-- has conversions of the list alone, each of as many arguments as it takes.
pub record MappingFits (list : List Conversion) (tests : List RowTest) (M : Mapping) : Type 0 where
  pub source : IsFaultless M.source
  pub target : IsFaultless M.target
  pub source_names : HaveWordNames M.source
  pub target_names : HaveWordNames M.target
  pub columns : Each M.conditions (λ c. IsSchemaColumn (model_tables M.source) c.place)
  pub tested : Each M.conditions (ConditionIsListed tests)
  pub few : length M.rules ≤ RULES
  pub fit : Each M.rules (RuleFits (model_tables M.source) (model_tables M.target))
  pub closed : Each M.rules (IsClosed (model_tables M.target))
  pub premises : Each M.rules (λ d. AtomsWithin M.source d.premise)
  pub conclusions : Each M.rules (λ d. AtomsWithin M.target d.conclusion)
  pub listed : Each M.rules (λ d. Each d.derived (λ e. IsListed list e.code (length e.args)))

-- a text has at most one mapping
abbrev pub OneAcceptedMapping : Type 0
OneAcceptedMapping = (list : List Conversion) (tests : List RowTest) → PassesOne (accepting list tests)

-- a text is accepted or refused for one reason, and never both
abbrev pub AcceptedOrRefused : Type 0
AcceptedOrRefused =
    (list : List Conversion) (tests : List RowTest)
    → IsDecided (λ e f. e ≡ f) (λ text. Unit {0}) (accepting list tests)

-- an accepted mapping has two schemas, and conditions and rules that fit them,
-- of a text of fewer than 4,294,967,295 bytes
abbrev pub AcceptedFits : Type 0
AcceptedFits =
    (list : List Conversion) (tests : List RowTest) (c : World) (text : List ℕ) (M : Mapping)
    → length text < 2 ^ 32 - 1 → (accepting list tests).passes c text M
    → MappingFits list tests M

-- no target set of an accepted mapping has a reserved name
abbrev pub AcceptedNamesAreFree : Type 0
AcceptedNamesAreFree =
    (list : List Conversion) (tests : List RowTest) (c : World) (text : List ℕ) (M : Mapping)
    → (accepting list tests).passes c text M → NoneReserved M.target
