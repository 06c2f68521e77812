-- What the scripts of rules mean.
use Rattle.std.specs.Prelude.{◌≡◌, ◌↔◌, ℕ, List, length}
use Rattle.dx_base.specs.Members.{◌∈◌, ◌⊆◌, Each}
use Rattle.dx_base.specs.Texts.{Text}
use Rattle.dx_model.specs.declared.facts.Fact.{Fact}
use Rattle.dx_model.specs.declared.rules.Rule.{Rule}
use Rattle.dx_model.specs.Values.{Tuple, Rows, Conversions}
use Rattle.dx_model.specs.Tables.{IsInstance}
use Rattle.dx_model.specs.Rules.{IsRows, AreRows, at_place, canonical}
use Rattle.dx_model.specs.Covers.{IsPlace, least_cover, rule_at, tuple_at, uncovered}
use Rattle.dx_model.specs.Fitting.{RuleFits}
use Rattle.dx_schema.specs.Forest.{Forest}
use Rattle.dx_schema.specs.Tables.{AreTables, model_tables, tables_of}
use Rattle.dx_schema.specs.Names.{TableNames, table_names_of}
use Rattle.dx_funcs.specs.declared.conversion.Conversion.{Conversion}
use Rattle.dx_funcs.specs.Offers.{IsListed, IsOffer}
use Rattle.dx_funcs.specs.Names.{call_named}
use Rattle.dx_script.specs.declared.form.Unless.{Unless}
use Rattle.dx_script.specs.declared.form.Step.{Step}
use Rattle.dx_script.specs.Meaning.{HasNoPartner, IsMatchTable, Means}
use Rattle.dx_script.specs.Fits.{FitsScript}
use Rattle.dx_script.specs.Generated.{equals, plain_steps, script_with, selects_of, sources_of, spots}
use Rattle.dx_script.specs.Rewritten.{rewritten_steps}

-- rules over two schemas whose conversions are listed
pub record RulesFit (source target : Forest) (list : List Conversion) (R : List Rule) : Type 0 where
  pub source_tables : AreTables (tables_of source)
  pub target_tables : AreTables (tables_of target)
  pub offer : IsOffer list
  pub fit : Each R (RuleFits (model_tables source) (model_tables target))
  pub listed : Each R (λ d. Each d.derived (λ e. IsListed list e.code (length e.args)))

-- the match table of a rule's step is its rows
abbrev pub MatchTableIsRows : Type 0
MatchTableIsRows =
    (source target : Forest) (convert : Conversions) (list : List Conversion) (R : List Rule) (d : Rule)
    (I : List Fact) (ts : List Tuple)
    → RulesFit source target list R → d ∈ R → IsInstance (model_tables source) I
    → IsMatchTable (table_names_of source) (call_named convert list) I
    (selects_of (table_names_of source) list d) (sources_of (table_names_of source) d)
    (equals (spots (table_names_of source) 0 d.premise)) ts
    ↔ IsRows convert d I ts

-- a place is left by the keep steps if its tuple has no partner
pub record IsLeftPlace (keeps : ℕ → List Unless) (R : List Rule) (tables : Rows) (f : Fact) : Type 0 where
  pub rule : ℕ
  pub place : ℕ
  pub is_place : IsPlace R tables rule place
  pub no_partner : HasNoPartner tables (keeps rule) (tuple_at tables rule place)
  pub fact : f ∈ at_place rule (rule_at R rule) place (tuple_at tables rule place)

-- a script of rules means the rows of the rules, and the facts of the places that are left
abbrev pub ScriptMeansLeft : Type 0
ScriptMeansLeft =
    (source target : Forest) (convert : Conversions) (list : List Conversion) (keeps : ℕ → List Unless)
    (R : List Rule) (I : List Fact) (tables : Rows) (K : List Fact)
    → RulesFit source target list R → IsInstance (model_tables source) I
    → Means (table_names_of source) (table_names_of target) (call_named convert list)
    (script_with (table_names_of source) (table_names_of target) list keeps R) I tables K
    ↔ (AreRows convert R I tables × ((f : Fact) → (f ∈ K) ↔ IsLeftPlace keeps R tables f))

-- the plain script means the canonical instance
abbrev pub PlainMeansCanonical : Type 0
PlainMeansCanonical =
    (source target : Forest) (convert : Conversions) (list : List Conversion) (R : List Rule)
    (I : List Fact) (tables : Rows) (K : List Fact)
    → RulesFit source target list R → IsInstance (model_tables source) I
    → Means (table_names_of source) (table_names_of target) (call_named convert list)
    (plain_steps (table_names_of source) (table_names_of target) list R) I tables K
    ↔ (AreRows convert R I tables × (K ⊆ canonical 0 R tables) × (canonical 0 R tables ⊆ K))

-- the rewritten script means the uncovered part
abbrev pub RewrittenMeansUncovered : Type 0
RewrittenMeansUncovered =
    (source target : Forest) (convert : Conversions) (list : List Conversion) (R : List Rule)
    (I : List Fact) (tables : Rows) (K : List Fact)
    → RulesFit source target list R → IsInstance (model_tables source) I
    → Means (table_names_of source) (table_names_of target) (call_named convert list)
    (rewritten_steps (table_names_of source) (table_names_of target) list R) I tables K
    ↔ (AreRows convert R I tables × (K ⊆ uncovered (least_cover R tables) 0 R tables)
    × (uncovered (least_cover R tables) 0 R tables ⊆ K))

-- the plain and the rewritten script fit
abbrev pub GeneratedFit : Type 0
GeneratedFit =
    (source target : Forest) (list : List Conversion) (R : List Rule) → RulesFit source target list R
    → FitsScript (table_names_of source) (table_names_of target) list
    (plain_steps (table_names_of source) (table_names_of target) list R)
    × FitsScript (table_names_of source) (table_names_of target) list
    (rewritten_steps (table_names_of source) (table_names_of target) list R)

-- a script has one meaning at most on the rows of a source
abbrev pub MeaningIsUnique : Type 0
MeaningIsUnique =
    (source target : List TableNames) (call : Text → Tuple → Text) (steps : List Step) (I : List Fact)
    (tables others : Rows) (K L : List Fact)
    → Means source target call steps I tables K → Means source target call steps I others L
    → (tables ≡ others) × (K ⊆ L) × (L ⊆ K)
