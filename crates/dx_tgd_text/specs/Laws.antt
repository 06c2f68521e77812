-- What holds of rules that are read.
use Rattle.std.specs.Prelude.{◌≡◌, ◌<◌, ◌≤◌, ℕ, List, None, length}
use Rattle.dx_base.specs.Members.{Each}
use Rattle.dx_model.specs.Fitting.{RuleFits}
use Rattle.dx_model.specs.declared.rules.Rule.{Rule}
use Rattle.dx_schema.specs.Forest.{Forest}
use Rattle.dx_schema.specs.Tables.{model_tables}
use Rattle.dx_funcs.specs.declared.conversion.Conversion.{Conversion}
use Rattle.dx_funcs.specs.Offers.{IsListed}
use Rattle.dx_schema_text.specs.declared.texts.CellText.{CellText}
use Rattle.dx_schema_text.specs.declared.texts.CellText.TheVariants.{Name, Literal}
use Rattle.dx_schema_text.specs.declared.texts.RuleText.{RuleText}
use Rattle.dx_schema_text.specs.declared.texts.MappingText.{MappingText}
use Rattle.dx_schema_text.specs.Texts.{IsMappingText}
use Rattle.dx_tgd_text.specs.Numbering.{text_cells}
use Rattle.dx_tgd_text.specs.Reading.{RuleHasFewCells, rule_fault, rule_of_text, size_of}

-- a cell is a name
abbrev pub IsNameCell : CellText → Type 0
IsNameCell (Name x place) = Unit {0}
IsNameCell (Literal t) = ⊥

-- a rule as the grammar has it: there are atoms on both sides, and names alone in the premise
pub record IsWholeRule (r : RuleText) : Type 0 where
  pub some_premise : 0 < length r.premise
  pub names : Each (text_cells r.premise) IsNameCell
  pub some_conclusion : 0 < length r.conclusion

-- the conversions of a rule are listed, each with as many arguments as it takes
abbrev pub AllOffered : List Conversion → Rule → Type 0
AllOffered list d = Each d.derived (λ e. IsListed list e.code (length e.args))

-- the rule of a text without a fault fits the schemas
abbrev pub ReadRulesFit : Type 0
ReadRulesFit =
    (source target : Forest) (list : List Conversion) (r : RuleText) → IsWholeRule r → RuleHasFewCells r
    → rule_fault source target list r ≡ None
    → RuleFits (model_tables source) (model_tables target) (rule_of_text source target list r)

-- and its conversions are listed
abbrev pub ReadRulesAreOffered : Type 0
ReadRulesAreOffered =
    (source target : Forest) (list : List Conversion) (r : RuleText)
    → rule_fault source target list r ≡ None → AllOffered list (rule_of_text source target list r)

-- the rules of a mapping text are as the grammar has them,
-- with no more cells and derived variables than the text has bytes
abbrev pub TextsHaveWholeRules : Type 0
TextsHaveWholeRules =
    (text : List ℕ) (m : MappingText) → IsMappingText text m
    → Each m.rules (λ r. IsWholeRule r × (size_of r ≤ length text))
