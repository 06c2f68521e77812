-- What a text is refused for, and the mapping of what it says.
use Rattle.std.specs.Prelude.{◌≡◌, ◌⊎◌, ℕ, ◌+◌, ◌<◌, ◌≤◌, List, [], ◌∷◌, ◌++◌, Option, Some, length, codes}
use Rattle.dx_base.specs.declared.file.Count.TheVariants.{Depth, FrozenCells, Lines, Occurrences, Rules}
use Rattle.dx_base.specs.declared.file.Limit.{Limit}
use Rattle.dx_base.specs.declared.limits.TheConstants.{DEPTH, FROZEN_CELLS, LINES, OCCURRENCES, RULES}
use Rattle.dx_base.specs.Members.{◌∈◌}
use Rattle.dx_model.specs.declared.rules.Atom.{Atom}
use Rattle.dx_model.specs.declared.rules.Rule.{Rule}
use Rattle.dx_model.specs.Tables.{Table}
use Rattle.dx_schema.specs.declared.fault.SchemaFault.{SchemaFault}
use Rattle.dx_schema.specs.declared.fault.SchemaFault.TheVariants as schema_faults
use Rattle.dx_schema.specs.Forest.{Forest}
use Rattle.dx_schema.specs.Tables.{tables_of, schema_table, model_tables}
use Rattle.dx_schema.specs.Links.{IsFirstSchemaFault}
use Rattle.dx_funcs.specs.declared.conversion.Conversion.{Conversion}
use Rattle.dx_funcs.specs.declared.row_test.RowTest.{RowTest}
use Rattle.dx_tokens.specs.declared.faults.TextFault.{TextFault}
use Rattle.dx_tokens.specs.declared.faults.TextFault.TheVariants as text_faults
use Rattle.dx_schema_text.specs.declared.texts.LineText.{LineText}
use Rattle.dx_schema_text.specs.declared.texts.OnlyText.{OnlyText}
use Rattle.dx_schema_text.specs.declared.texts.RuleText.{RuleText}
use Rattle.dx_closing.specs.Closing.{IsClosing, IsClosingOf}
use Rattle.dx_lines.specs.Rules.{kept_rules}
use Rattle.dx_lines.specs.Limits.{passed_limit}
use Rattle.dx_candidates.specs.declared.fault.CandFault.{CandFault}
use Rattle.dx_candidates.specs.declared.fault.CandFault.TheVariants as cand_faults
use Rattle.dx_line_text.specs.Naming.{lines_fault, lines_of}
use Rattle.dx_line_text.specs.Conditions.{conditions_fault}
use Rattle.dx_tgd_text.specs.Reading.{rules_fault, rules_of_texts as said_rules_of}
use Rattle.dx_tgd.specs.declared.fault.CanonFault.{CanonFault}
use Rattle.dx_tgd.specs.declared.fault.CanonFault.TheVariants as canon_faults
use Rattle.dx_implies.specs.Pruning.{PruningPassesLimit}
use Rattle.clio_accept.specs.declared.fault.AcceptFault.{AcceptFault}
use Rattle.clio_accept.specs.declared.fault.AcceptFault.TheVariants as faults
use Rattle.clio_accept.specs.declared.fault.MapFault.TheVariants as map_faults

-- ---- reserved names

-- a target set of this name would write a file of a name that is taken
abbrev pub IsReserved : List ℕ → Type 0
IsReserved name = (name ≡ codes "nulls") ⊎ (name ≡ codes "fold")

-- no set has a reserved name
abbrev pub NoneReserved : Forest → Type 0
NoneReserved f = (t : ℕ) → t < length (tables_of f) → ¬ (IsReserved (schema_table f t).name)

-- the first set with a reserved name has this one
pub record IsFirstReserved (f : Forest) (name : List ℕ) : Type 0 where
  pub table : ℕ
  pub within : table < length (tables_of f)
  pub is : name ≡ (schema_table f table).name
  pub reserved : IsReserved name
  pub first : (t : ℕ) → t < table → ¬ (IsReserved (schema_table f t).name)

-- ---- what is answered of a fault

-- why a mapping is refused, if this is the fault of its text, of its source sets, of its target sets
abbrev pub text_refusal : TextFault → AcceptFault
text_refusal (text_faults.At place kind) = faults.Mapping (map_faults.Text place kind)
text_refusal (text_faults.TooDeep place) = faults.Limit (record { what = Depth; number = DEPTH })
text_refusal text_faults.Memory = faults.Memory

-- and if this is the fault of the limits of its lines
abbrev pub limit_refusal : CandFault → AcceptFault
limit_refusal (cand_faults.TooMany l) = faults.Limit l
limit_refusal cand_faults.Memory = faults.Memory

-- and if this is the fault of pruning its rules
abbrev pub frozen_refusal : CanonFault → AcceptFault
frozen_refusal (canon_faults.Limit l) = faults.Limit l
frozen_refusal canon_faults.Memory = faults.Memory

abbrev pub source_sets_refusal : SchemaFault → AcceptFault
source_sets_refusal (schema_faults.Bad kind) = faults.Mapping (map_faults.Source kind)
source_sets_refusal (schema_faults.TooMany l) = faults.Limit l
source_sets_refusal schema_faults.Memory = faults.Memory

abbrev pub target_refusal : SchemaFault → AcceptFault
target_refusal (schema_faults.Bad kind) = faults.Mapping (map_faults.Target kind)
target_refusal (schema_faults.TooMany l) = faults.Limit l
target_refusal schema_faults.Memory = faults.Memory

-- ---- the rules of lines

-- what lines between two schemas mean: the rules of their kept candidates, in order
abbrev pub rules_of_lines : List Conversion → Forest → Forest → List LineText → List Rule
rules_of_lines list source target lines =
    kept_rules (lines_of source target list lines) (model_tables source) (model_tables target)

-- the first limit that lines between two schemas pass
abbrev pub limit_of : List Conversion → Forest → Forest → List LineText → Option Limit
limit_of list source target lines =
    passed_limit (lines_of source target list lines) (model_tables source) (model_tables target)

-- ---- hand-written rules

-- what hand-written rules between two schemas say
abbrev pub written_of : List Conversion → Forest → Forest → List RuleText → List Rule
written_of list source target by_hand = said_rules_of source target list by_hand

-- e is the closing of d, and neither the premise nor the closed conclusion has too many atoms
pub record IsNarrowClosing (schema : List Table) (d e : Rule) : Type 0 where
  pub closing : IsClosingOf schema d e
  pub premise : length d.premise ≤ OCCURRENCES
  pub conclusion : length e.conclusion ≤ OCCURRENCES

-- each of these rules is the closing of one of those, in order
abbrev pub AreClosings : List Table → List Rule → List Rule → Type 0
AreClosings schema [] [] = Unit {0}
AreClosings schema [] (e ∷ es) = ⊥
AreClosings schema (d ∷ ds) [] = ⊥
AreClosings schema (d ∷ ds) (e ∷ es) = IsNarrowClosing schema d e × AreClosings schema ds es

-- a rule is too wide: its premise has too many atoms, or each closing of its conclusion has
abbrev pub IsTooWide : List Table → Rule → Type 0
IsTooWide schema d =
    (OCCURRENCES < length d.premise) ⊎ ((E : List Atom) → IsClosing schema d.conclusion E → OCCURRENCES < length E)

-- the rules of lines, and after them the closed hand-written rules
pub record RulesOfLines (list : List Conversion) (source target : Forest) (lines : List LineText)
    (by_hand : List RuleText) (R : List Rule) : Type 0 where
  pub closed : List Rule
  pub closings : AreClosings (model_tables target) (written_of list source target by_hand) closed
  pub are : R ≡ rules_of_lines list source target lines ++ closed

-- ---- why it is refused

-- the sets of the source, and of the target, have a first fault
abbrev pub SourceRefused : Forest → AcceptFault → Type 0
SourceRefused f e = (k : SchemaFault) × IsFirstSchemaFault f k × (e ≡ source_sets_refusal k)

abbrev pub TargetRefused : Forest → AcceptFault → Type 0
TargetRefused f e = (k : SchemaFault) × IsFirstSchemaFault f k × (e ≡ target_refusal k)

-- a target set has a reserved name
abbrev pub NameRefused : Forest → AcceptFault → Type 0
NameRefused f e = (name : List ℕ) × IsFirstReserved f name × (e ≡ faults.Mapping (map_faults.Reserved name))

-- there are too many lines and conditions
abbrev pub LinesRefused : List LineText → List OnlyText → AcceptFault → Type 0
LinesRefused lines conditions e =
    (LINES < length lines + length conditions) × (e ≡ faults.Limit (record { what = Lines; number = LINES }))

-- a word of a line names nothing, or a conversion has another number of arguments
abbrev pub NamingRefused : List Conversion → Forest → Forest → List LineText → AcceptFault → Type 0
NamingRefused list source target lines e =
    (k : TextFault) × (lines_fault source target list lines ≡ Some k) × (e ≡ text_refusal k)

-- a word of a condition names nothing
abbrev pub TestingRefused : List RowTest → Forest → List OnlyText → AcceptFault → Type 0
TestingRefused tests source conditions e =
    (k : TextFault) × (conditions_fault source tests conditions ≡ Some k) × (e ≡ text_refusal k)

-- a hand-written rule has a fault
abbrev pub WritingRefused : List Conversion → Forest → Forest → List RuleText → AcceptFault → Type 0
WritingRefused list source target by_hand e =
    (k : TextFault) × (rules_fault source target list by_hand ≡ Some k) × (e ≡ text_refusal k)

-- the lines pass a limit
abbrev pub LimitRefused : List Conversion → Forest → Forest → List LineText → AcceptFault → Type 0
LimitRefused list source target lines e =
    (l : Limit) × (limit_of list source target lines ≡ Some l) × (e ≡ faults.Limit l)

-- what is answered of a rule that is too wide
abbrev pub TooWide : AcceptFault
TooWide = faults.Limit (record { what = Occurrences; number = OCCURRENCES })

-- a hand-written rule is too wide
abbrev pub WidthRefused : List Table → List Rule → AcceptFault → Type 0
WidthRefused schema written e = (d : Rule) × (d ∈ written) × IsTooWide schema d × (e ≡ TooWide)

-- there are too many rules
abbrev pub RulesRefused : List Rule → AcceptFault → Type 0
RulesRefused R e = (RULES < length R) × (e ≡ faults.Limit (record { what = Rules; number = RULES }))

-- how many canonical cells a frozen premise may have
abbrev pub frozen_cells : ℕ
frozen_cells = FROZEN_CELLS

-- a rule that pruning tests has a frozen premise with too many canonical cells
abbrev pub FrozenRefused : List Rule → AcceptFault → Type 0
FrozenRefused R e =
    PruningPassesLimit frozen_cells R × (e ≡ faults.Limit (record { what = FrozenCells; number = frozen_cells }))
