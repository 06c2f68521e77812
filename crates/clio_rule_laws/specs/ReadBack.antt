-- When a text is read as a rule, and which rules can be written so that they are.
use Rattle.std.specs.Prelude.{◌≡◌, ◌≤◌, List, None, IsUtf8, ◌++◌}
use Rattle.dx_base.specs.Members.{◌∈◌, Each}
use Rattle.dx_base.specs.Texts.{Text}
use Rattle.dx_model.specs.declared.rules.Cell.TheVariants.{Lit}
use Rattle.dx_model.specs.declared.rules.Atom.{Atom}
use Rattle.dx_model.specs.declared.rules.Rule.{Rule}
use Rattle.dx_model.specs.Fitting.{RuleFits}
use Rattle.dx_schema.specs.Forest.{Forest}
use Rattle.dx_schema.specs.Tables.{model_tables}
use Rattle.dx_funcs.specs.declared.conversion.Conversion.{Conversion}
use Rattle.dx_funcs.specs.Names.{conversion_name}
use Rattle.dx_tokens.specs.Scan.{scan_of}
use Rattle.dx_tokens.specs.Lexing.{IsWord}
use Rattle.dx_schema_text.specs.declared.texts.RuleText.{RuleText}
use Rattle.dx_schema_text.specs.declared.texts.MappingText.{MappingText}
use Rattle.dx_schema_text.specs.Texts.{IsMappingText}
use Rattle.dx_schema_text.specs.Spelling.{SpellsRule}
use Rattle.dx_rule_text.specs.Printed.{table_name}
use Rattle.dx_tgd_text.specs.Reading.{rule_fault, rule_of_text, rules_fault, rules_of_texts}
use Rattle.dx_tgd_text.specs.Laws.{AllOffered}

-- the text says this rule: all of it is tokens, which spell the rule
pub record IsRuleText (text : Text) (r : RuleText) : Type 0 where
  pub no_stop : (scan_of text).stop ≡ None
  pub spelled : SpellsRule r (scan_of text).lexemes

-- the text is read as the rule: it says a rule without a fault, which is this one by the numbers of what it names
pub record IsReadAs (source target : Forest) (list : List Conversion) (d : Rule) (text : Text) : Type 0 where
  pub said : RuleText
  pub is_text : IsRuleText text said
  pub no_fault : rule_fault source target list said ≡ None
  pub same : rule_of_text source target list said ≡ d

-- a text that can be in a string: UTF-8 without a byte below 32
abbrev pub IsStringText : Text → Type 0
IsStringText text = IsUtf8 text × Each text (λ b. 32 ≤ b)

-- the name of an atom's table is a word
abbrev pub IsNamedByWord : Forest → Atom → Type 0
IsNamedByWord schema a = IsWord (table_name schema a.table)

-- each literal of an atom can be in a string
abbrev pub HasStringTexts : Atom → Type 0
HasStringTexts a = (text : Text) → Lit text ∈ a.cells → IsStringText text

-- the name of each table of a rule is a word
pub record HasNamedTables (source target : Forest) (d : Rule) : Type 0 where
  pub premise : Each d.premise (IsNamedByWord source)
  pub conclusion : Each d.conclusion (IsNamedByWord target)

-- the name of each conversion of a rule is a word, and each literal can be in a string
pub record IsWritable (list : List Conversion) (d : Rule) : Type 0 where
  pub conversions : Each d.derived (λ e. IsWord (conversion_name list e.code))
  pub literals : Each d.conclusion HasStringTexts

-- a rule that is read again when it is printed: it fits the schemas, its conversions are listed, and it can be written
pub record IsPrintableRule (source target : Forest) (list : List Conversion) (d : Rule) : Type 0 where
  pub fits : RuleFits (model_tables source) (model_tables target) d
  pub offered : AllOffered list d
  pub named : HasNamedTables source target d
  pub writable : IsWritable list d

-- a mapping with rules after its own
abbrev pub with_more_rules : MappingText → List RuleText → MappingText
with_more_rules m rules = record m { rules = m.rules ++ rules }

-- the text is read as a mapping with these rules after its own: it says the mapping and rules without a fault, which
-- are these by the numbers of what they name
pub record ReadsBehind (m : MappingText) (list : List Conversion) (ds : List Rule) (text : Text) : Type 0 where
  pub said : List RuleText
  pub is_text : IsMappingText text (with_more_rules m said)
  pub no_fault : rules_fault m.source m.target list said ≡ None
  pub same : rules_of_texts m.source m.target list said ≡ ds
