-- Printed rules are read again, and those of an accepted mapping are accepted again.
use Rattle.std.specs.Prelude.{◌≡◌, ◌-◌, ◌^◌, ◌<◌, ℕ, List, ◌++◌, None, codes, length}
use Rattle.dx_base.specs.Members.{◌∈◌, Each}
use Rattle.dx_base.specs.Texts.{Text}
use Rattle.dx_stages.specs.Worlds.{World}
use Rattle.dx_model.specs.declared.rules.Rule.{Rule}
use Rattle.dx_model.specs.Tables.{Table}
use Rattle.dx_model.specs.Fitting.{RuleFits}
use Rattle.dx_schema.specs.Forest.{Forest}
use Rattle.dx_schema.specs.Tables.{AreTables, tables_of, model_tables}
use Rattle.dx_funcs.specs.declared.conversion.Conversion.{Conversion}
use Rattle.dx_funcs.specs.declared.row_test.RowTest.{RowTest}
use Rattle.dx_funcs.specs.Offers.{IsOffer}
use Rattle.dx_schema_text.specs.declared.texts.RuleText.{RuleText}
use Rattle.dx_schema_text.specs.declared.texts.MappingText.{MappingText}
use Rattle.dx_schema_text.specs.Texts.{IsMappingText}
use Rattle.dx_schema_text.specs.Print.{sides}
use Rattle.dx_closing.specs.Closing.{IsClosingOf}
use Rattle.dx_lines.specs.Rules.{kept_rules}
use Rattle.dx_line_text.specs.Naming.{lines_fault, lines_of}
use Rattle.dx_rule_text.specs.Printed.{rule_text, rules_text}
use Rattle.dx_tgd_text.specs.Reading.{RuleHasFewCells, rule_fault, rule_of_text, rules_fault, rules_of_texts}
use Rattle.dx_tgd_text.specs.Laws.{AllOffered}
use Rattle.clio_accept.specs.declared.mapping.Mapping.{Mapping}
use Rattle.clio_accept.specs.Accepting.{accepting}
use Rattle.clio_rule_laws.specs.ReadBack.{IsRuleText, IsReadAs, ReadsBehind, IsPrintableRule, IsWritable}
use Rattle.clio_rule_laws.specs.Shown.{ShowsAgain, rule_lines, unconditional}

-- between two schemas with offered conversions, the text of each rule that can be printed is read as this rule
abbrev pub PrintedRulesAreRead : Type 0
PrintedRulesAreRead =
    (source target : Forest) (list : List Conversion) (d : Rule) → AreTables (tables_of source)
    → AreTables (tables_of target) → IsOffer list → IsPrintableRule source target list d
    → IsReadAs source target list d (rule_text source target list d)

-- so no two of them have one text
abbrev pub PrintedRulesDiffer : Type 0
PrintedRulesDiffer =
    (source target : Forest) (list : List Conversion) (d e : Rule) → AreTables (tables_of source)
    → AreTables (tables_of target) → IsOffer list → IsPrintableRule source target list d
    → IsPrintableRule source target list e
    → rule_text source target list d ≡ rule_text source target list e → d ≡ e

-- after a mapping text whose sides are schemas, the lines of rules that fit them and
-- can be written are read as rules of the mapping: these
abbrev pub PrintedLinesAreRead : Type 0
PrintedLinesAreRead =
    (text : Text) (m : MappingText) (list : List Conversion) (ds : List Rule) → IsMappingText text m
    → AreTables (tables_of m.source) → AreTables (tables_of m.target) → IsOffer list
    → Each ds (RuleFits (model_tables m.source) (model_tables m.target)) → Each ds (AllOffered list)
    → Each ds (IsWritable list)
    → ReadsBehind m list ds (text ++ (codes "\n" ++ rules_text m.source m.target list ds))

-- of a rule that a mapping text says without a fault each conversion and each literal can be written
abbrev pub SaidRulesAreWritable : Type 0
SaidRulesAreWritable =
    (text : Text) (m : MappingText) (list : List Conversion) (r : RuleText) → IsMappingText text m
    → IsOffer list → r ∈ m.rules → rule_fault m.source m.target list r ≡ None
    → IsWritable list (rule_of_text m.source m.target list r)

-- and so it is of each rule that the lines of a mapping text mean
abbrev pub LineRulesAreWritable : Type 0
LineRulesAreWritable =
    (text : Text) (m : MappingText) (list : List Conversion) → IsMappingText text m → IsOffer list
    → lines_fault m.source m.target list m.lines ≡ None
    → Each (kept_rules (lines_of m.source m.target list m.lines) (model_tables m.source)
    (model_tables m.target)) (IsWritable list)

-- and of the closing of a rule, if it is so of the rule
abbrev pub ClosingsAreWritable : Type 0
ClosingsAreWritable =
    (schema : List Table) (list : List Conversion) (d e : Rule) → IsClosingOf schema d e
    → IsWritable list d → IsWritable list e

-- so whatever rules a mapping text says without a fault: printed in lines after the text,
-- they are read as the same rules
abbrev pub SaidRulesAreReadAgain : Type 0
SaidRulesAreReadAgain =
    (text : Text) (m : MappingText) (list : List Conversion) → IsMappingText text m
    → AreTables (tables_of m.source) → AreTables (tables_of m.target) → IsOffer list
    → Each m.rules RuleHasFewCells → rules_fault m.source m.target list m.rules ≡ None
    → ReadsBehind m list (rules_of_texts m.source m.target list m.rules)
    (text ++ (codes "\n" ++ rules_text m.source m.target list (rules_of_texts m.source m.target list m.rules)))

-- and those rules can be printed
abbrev pub SaidRulesArePrintable : Type 0
SaidRulesArePrintable =
    (text : Text) (m : MappingText) (list : List Conversion) → IsMappingText text m
    → AreTables (tables_of m.source) → AreTables (tables_of m.target) → IsOffer list
    → Each m.rules RuleHasFewCells → rules_fault m.source m.target list m.rules ≡ None
    → Each (rules_of_texts m.source m.target list m.rules) (IsPrintableRule m.source m.target list)

-- a text says at most one rule, and is read as at most one
abbrev pub OneRuleText : Type 0
OneRuleText = (text : Text) (r s : RuleText) → IsRuleText text r → IsRuleText text s → r ≡ s

abbrev pub OneRule : Type 0
OneRule =
    (source target : Forest) (list : List Conversion) (d e : Rule) (text : Text)
    → IsReadAs source target list d text → IsReadAs source target list e text → d ≡ e

-- after a mapping it is read as one list of rules at most
abbrev pub OneListBehind : Type 0
OneListBehind =
    (m : MappingText) (list : List Conversion) (ds es : List Rule) (text : Text)
    → ReadsBehind m list ds text → ReadsBehind m list es text → ds ≡ es

-- a rule that a text is read as has listed conversions alone
abbrev pub ReadIsOffered : Type 0
ReadIsOffered =
    (source target : Forest) (list : List Conversion) (d : Rule) (text : Text)
    → IsReadAs source target list d text → AllOffered list d

-- and so has each that is read after a mapping
abbrev pub ReadBehindIsOffered : Type 0
ReadBehindIsOffered =
    (m : MappingText) (list : List Conversion) (ds : List Rule) (text : Text)
    → ReadsBehind m list ds text → Each ds (AllOffered list)

-- the rules of each accepted text of fewer than 4,294,967,295 bytes are read again
abbrev pub ShownRulesAreReadAgain : Type 0
ShownRulesAreReadAgain =
    (list : List Conversion) (tests : List RowTest) (c : World) (text : Text) (M : Mapping)
    → IsOffer list → length text < 2 ^ 32 - 1 → (accepting list tests).passes c text M
    → ShowsAgain list text M

-- and each text that says its sets alone, in whatever version, with the lines of its rules after it, is accepted with
-- the same mapping, without its conditions
abbrev pub ShownIsAccepted : Type 0
ShownIsAccepted =
    (list : List Conversion) (tests : List RowTest) (c : World) (text sets : Text) (M : Mapping)
    (version : ℕ) → IsOffer list → length text < 2 ^ 32 - 1 → (accepting list tests).passes c text M
    → IsMappingText sets (sides version M.source M.target)
    → (accepting list tests).passes c (sets ++ rule_lines list M) (unconditional M)
