-- When the rules of a mapping are read again as `clio show` prints them.
use Rattle.std.specs.Prelude.{◌≡◌, ℕ, List, [], ◌++◌, codes}
use Rattle.dx_base.specs.Texts.{Text}
use Rattle.dx_funcs.specs.declared.conversion.Conversion.{Conversion}
use Rattle.dx_schema_text.specs.declared.texts.MappingText.{MappingText}
use Rattle.dx_schema_text.specs.Texts.{IsMappingText}
use Rattle.dx_schema_text.specs.Print.{sides}
use Rattle.dx_rule_text.specs.Printed.{rules_text}
use Rattle.clio_rule_laws.specs.ReadBack.{ReadsBehind}
use Rattle.clio_accept.specs.declared.mapping.Mapping.{Mapping}

-- the rules of a mapping, each in a line after the end of a line
abbrev pub rule_lines : List Conversion → Mapping → Text
rule_lines list M = codes "\n" ++ rules_text M.source M.target list M.rules

-- the lines of the rules are read as these rules: after the text of the mapping,
-- and after each text that says its sets alone
pub record ShowsAgain (list : List Conversion) (text : Text) (M : Mapping) : Type 0 where
  pub said : MappingText
  pub is_text : IsMappingText text said
  pub source : said.source ≡ M.source
  pub target : said.target ≡ M.target
  pub behind : ReadsBehind said list M.rules (text ++ rule_lines list M)
  pub alone : (version : ℕ) (sets : Text) → IsMappingText sets (sides version M.source M.target)
      → ReadsBehind (sides version M.source M.target) list M.rules (sets ++ rule_lines list M)

-- the mapping without its conditions
abbrev pub unconditional : Mapping → Mapping
unconditional M = record M { conditions = [] }
