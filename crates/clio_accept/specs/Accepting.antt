-- Accepting a text, one stage after the other.
use Rattle.std.specs.Prelude.{◌≡◌, ◌≤◌, ◌+◌, ℕ, List, None, length}
use Rattle.dx_base.specs.declared.limits.TheConstants.{LINES, RULES}
use Rattle.dx_model.specs.declared.rules.Rule.{Rule}
use Rattle.dx_base.specs.Members.{Each}
use Rattle.dx_stages.specs.Stages.{Stage, next, over, into, saying, checking, notions}
use Rattle.dx_schema.specs.Forest.{Forest}
use Rattle.dx_schema.specs.Tables.{model_tables}
use Rattle.dx_schema.specs.Links.{IsFaultless}
use Rattle.dx_schema.specs.Bounds.{HasFewRules}
use Rattle.dx_funcs.specs.declared.conversion.Conversion.{Conversion}
use Rattle.dx_funcs.specs.declared.row_test.RowTest.{RowTest}
use Rattle.dx_schema_text.specs.declared.texts.LineText.{LineText}
use Rattle.dx_schema_text.specs.declared.texts.OnlyText.{OnlyText}
use Rattle.dx_schema_text.specs.declared.texts.RuleText.{RuleText}
use Rattle.dx_schema_text.specs.declared.texts.MappingText.{MappingText}
use Rattle.dx_schema_text.specs.Texts.{IsMappingText, IsMappingTextFault}
use Rattle.dx_line_text.specs.Naming.{lines_fault}
use Rattle.dx_line_text.specs.Conditions.{conditions_fault, conditions_of}
use Rattle.dx_tgd_text.specs.Laws.{IsWholeRule}
use Rattle.dx_tgd_text.specs.Reading.{RuleHasFewCells, rules_fault}
use Rattle.dx_implies.specs.Pruning.{IsPrunedAlways, PruningPassesLimit}
use Rattle.clio_accept.specs.declared.mapping.Mapping.{Mapping}
use Rattle.clio_accept.specs.declared.fault.AcceptFault.{AcceptFault}
use Rattle.clio_accept.specs.Mapping.{SourceRefused, TargetRefused, NameRefused, LinesRefused}
use Rattle.clio_accept.specs.Mapping.{NamingRefused, TestingRefused, WritingRefused}
use Rattle.clio_accept.specs.Mapping.{LimitRefused, WidthRefused, RulesRefused, FrozenRefused, frozen_cells}
use Rattle.clio_accept.specs.Mapping.{NoneReserved, RulesOfLines, written_of, limit_of, text_refusal}

-- ---- rules

-- lines, conditions and hand-written rules, and the two schemas that they are between
pub record TextsBetween : Type 0 where
  pub source : Forest
  pub target : Forest
  pub lines : List LineText
  pub conditions : List OnlyText
  pub by_hand : List RuleText

-- these lines, conditions and hand-written rules between these schemas
abbrev pub texts_between : Forest → Forest → List LineText → List OnlyText → List RuleText → TextsBetween
texts_between source target lines conditions by_hand =
    record { source = source; target = target; lines = lines; conditions = conditions; by_hand = by_hand }

-- They are between two schemas without a fault, and each hand-written rule is whole and has few cells.
pub record IsBetweenSchemas (b : TextsBetween) : Type 0 where
  pub source : IsFaultless b.source
  pub target : IsFaultless b.target
  pub whole : Each b.by_hand IsWholeRule
  pub narrow : Each b.by_hand RuleHasFewCells

-- not too many lines and conditions together
abbrev pub line_count : Stage AcceptFault TextsBetween TextsBetween
line_count = checking (λ b. LinesRefused b.lines b.conditions) (λ b. length b.lines + length b.conditions ≤ LINES)

-- the words of the lines name what there is
abbrev pub naming : List Conversion → Stage AcceptFault TextsBetween TextsBetween
naming list =
    checking (λ b. NamingRefused list b.source b.target b.lines)
    (λ b. lines_fault b.source b.target list b.lines ≡ None)

-- the words of the conditions name what there is
abbrev pub conditions_stage : List RowTest → Stage AcceptFault TextsBetween TextsBetween
conditions_stage tests =
    checking (λ b. TestingRefused tests b.source b.conditions)
    (λ b. conditions_fault b.source tests b.conditions ≡ None)

-- the hand-written rules have no fault
abbrev pub writing : List Conversion → Stage AcceptFault TextsBetween TextsBetween
writing list =
    checking (λ b. WritingRefused list b.source b.target b.by_hand)
    (λ b. rules_fault b.source b.target list b.by_hand ≡ None)

-- no limit of lines is passed
abbrev pub limits : List Conversion → Stage AcceptFault TextsBetween TextsBetween
limits list =
    checking (λ b. LimitRefused list b.source b.target b.lines)
    (λ b. limit_of list b.source b.target b.lines ≡ None)

-- the rules that the lines mean, and the closed hand-written rules, none of which is too wide
abbrev pub closing : List Conversion → Stage AcceptFault TextsBetween (List Rule)
closing list =
    notions (λ b. WidthRefused (model_tables b.target) (written_of list b.source b.target b.by_hand))
    (λ b. RulesOfLines list b.source b.target b.lines b.by_hand)

-- not too many rules
abbrev pub rule_count : Stage AcceptFault (List Rule) (List Rule)
rule_count = checking RulesRefused (λ R. length R ≤ RULES)

-- at most so many canonical cells on the frozen premise of each rule that pruning tests
abbrev pub frozen_count : Stage AcceptFault (List Rule) (List Rule)
frozen_count = checking FrozenRefused (λ R. ¬ (PruningPassesLimit frozen_cells R))

-- the pruned list
abbrev pub pruning : Stage AcceptFault (List Rule) (List Rule)
pruning = notions (λ R e. ⊥) IsPrunedAlways

-- what is left of the rules
abbrev pub leaving : Stage AcceptFault (List Rule) (List Rule)
leaving = next rule_count (next frozen_count pruning)

abbrev pub taking : List Conversion → List RowTest → Stage AcceptFault TextsBetween (List Rule)
taking list tests =
    next line_count (next (naming list)
    (next (conditions_stage tests) (next (writing list) (next (limits list) (next (closing list) leaving)))))

-- the two schemas with the conditions and these rules
abbrev pub with_rules : List RowTest → TextsBetween → List Rule → Mapping
with_rules tests b R =
    record {
      source = b.source;
      target = b.target;
      conditions = conditions_of b.source tests b.conditions;
      rules = R;
    }

abbrev pub mapping_of : List Conversion → List RowTest → Stage AcceptFault TextsBetween Mapping
mapping_of list tests = into (with_rules tests) (taking list tests)

-- ---- the mapping of what a text says

-- What a text says can be taken for a mapping: its sets have few keys, dependencies and refs, and each hand-written
-- rule is whole and has few cells.
pub record IsAcceptable (m : MappingText) : Type 0 where
  pub source : HasFewRules m.source
  pub target : HasFewRules m.target
  pub whole : Each m.rules IsWholeRule
  pub narrow : Each m.rules RuleHasFewCells

-- the sets of the source, and of the target, make a schema
abbrev pub source_sets : Stage AcceptFault MappingText MappingText
source_sets = checking (λ m. SourceRefused m.source) (λ m. IsFaultless m.source)

abbrev pub target_sets : Stage AcceptFault MappingText MappingText
target_sets = checking (λ m. TargetRefused m.target) (λ m. IsFaultless m.target)

-- no target set has a reserved name
abbrev pub target_names : Stage AcceptFault MappingText MappingText
target_names = checking (λ m. NameRefused m.target) (λ m. NoneReserved m.target)

-- the lines, conditions and rules of what a text says
abbrev pub between_of : MappingText → TextsBetween
between_of m =
    record { source = m.source; target = m.target; lines = m.lines; conditions = m.conditions; by_hand = m.rules }

abbrev pub said_rules : List Conversion → List RowTest → Stage AcceptFault MappingText Mapping
said_rules list tests = over between_of (mapping_of list tests)

abbrev pub accepting_said : List Conversion → List RowTest → Stage AcceptFault MappingText Mapping
accepting_said list tests = next source_sets (next target_sets (next target_names (said_rules list tests)))

-- ---- the mapping of a text

-- what a text says, or its first fault
abbrev pub said_by : Stage AcceptFault (List ℕ) MappingText
said_by = saying text_refusal (notions IsMappingTextFault IsMappingText)

abbrev pub accepting : List Conversion → List RowTest → Stage AcceptFault (List ℕ) Mapping
accepting list tests = next said_by (accepting_said list tests)
