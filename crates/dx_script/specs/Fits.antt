-- When a script fits a source, a target and a list of conversions.
use Rattle.std.specs.Prelude.{◌≡◌, ℕ, ◌<◌, Bool, true, false, List, [], ◌∷◌}
use Rattle.std.specs.Prelude.{◌++◌, flat_map, map, length, slice_index_or}
use Rattle.dx_base.specs.Members.{◌∈◌, Each}
use Rattle.dx_base.specs.Texts.{Text}
use Rattle.dx_schema.specs.Names.{TableNames}
use Rattle.dx_funcs.specs.declared.conversion.Conversion.{Conversion}
use Rattle.dx_funcs.specs.Names.{TakesTexts}
use Rattle.dx_script.specs.declared.form.CellRef.{CellRef}
use Rattle.dx_script.specs.declared.form.Select.{Select}
use Rattle.dx_script.specs.declared.form.Select.TheVariants.{Cell, Call}
use Rattle.dx_script.specs.declared.form.Equal.{Equal}
use Rattle.dx_script.specs.declared.form.Test.{Test}
use Rattle.dx_script.specs.declared.form.Test.TheVariants.{Columns, Literal as Same}
use Rattle.dx_script.specs.declared.form.Unless.{Unless}
use Rattle.dx_script.specs.declared.form.Out.{Out}
use Rattle.dx_script.specs.declared.form.Out.TheVariants.{Column, Literal, Skolem}
use Rattle.dx_script.specs.declared.form.Step.{Step}
use Rattle.dx_script.specs.declared.form.Step.TheVariants.{Create, MatchRows, KeepRows, InsertRows}
use Rattle.dx_script.specs.Names.{table_numbered, table_names, table_named}
use Rattle.dx_script.specs.Meaning.{table_of_alias}

-- ---- what the steps of a list make

-- a table that a step creates: its name and its columns
abbrev pub created_in : Step → List (Text × List Text)
created_in (Create table columns) = (table, columns) ∷ []
created_in (MatchRows r select sources equal) = []
created_in (KeepRows r unless) = []
created_in (InsertRows table r kept cells) = []

-- the tables that the steps create
abbrev pub created : List Step → List (Text × List Text)
created steps = flat_map created_in steps

-- how many columns a match table has that a step makes
abbrev pub width_in : Step → List ℕ
width_in (Create table columns) = []
width_in (MatchRows r select sources equal) = length select ∷ []
width_in (KeepRows r unless) = []
width_in (InsertRows table r kept cells) = []

-- how many columns the match tables have that the steps make, in order
abbrev pub match_widths : List Step → List ℕ
match_widths steps = flat_map width_in steps

-- the rule whose keep table a step makes
abbrev pub kept_in : Step → List ℕ
kept_in (Create table columns) = []
kept_in (MatchRows r select sources equal) = []
kept_in (KeepRows r unless) = r ∷ []
kept_in (InsertRows table r kept cells) = []

-- the rules whose keep tables the steps make
abbrev pub rules_with_keep : List Step → List ℕ
rules_with_keep steps = flat_map kept_in steps

-- the steps make a match table of rule r with a column c
abbrev pub HasColumn : List Step → ℕ → ℕ → Type 0
HasColumn steps r c = (r < length (match_widths steps)) × (c < slice_index_or (match_widths steps) r 0)

-- ---- parts of steps

-- a cell is a column of the source table of its alias
pub record CellFits (source : List TableNames) (sources : List Text) (cell : CellRef) : Type 0 where
  pub alias : cell.alias < length sources
  pub column : cell.column ∈ (table_numbered source (table_of_alias source sources cell.alias)).columns

-- what is selected is a cell, or a listed conversion with as many cells as it takes
abbrev pub SelectFits : List TableNames → List Conversion → List Text → Select → Type 0
SelectFits source list sources (Cell cell) = CellFits source sources cell
SelectFits source list sources (Call name args) =
    TakesTexts list name (length args) × Each args (CellFits source sources)

-- both cells that are to be equal fit
abbrev pub EqualFits : List TableNames → List Text → Equal → Type 0
EqualFits source sources equal = CellFits source sources equal.left × CellFits source sources equal.right

-- the step of a match table comes as the numbers of rules do, and has names of source tables,
-- columns and conversions alone
pub record MatchFits (source : List TableNames) (list : List Conversion) (before : List Step) (r : ℕ)
    (select : List Select) (sources : List Text) (equal : List Equal) : Type 0 where
  pub number : r ≡ length (match_widths before)
  pub sources_named : Each sources (λ name. name ∈ table_names source)
  pub selected : Each select (SelectFits source list sources)
  pub equal_cells : Each equal (EqualFits source sources)

-- a test reads columns of the match table of rule r, and of that of rule other
abbrev pub TestFits : List Step → ℕ → ℕ → Test → Type 0
TestFits before r other (Columns c own) = HasColumn before other c × HasColumn before r own
TestFits before r other (Same own text) = HasColumn before r own

-- the partners of a tuple of rule r's match table are tuples of a match table before the step
pub record UnlessFits (before : List Step) (r : ℕ) (u : Unless) : Type 0 where
  pub rule : u.rule < length (match_widths before)
  pub tests : Each u.tests (TestFits before r u.rule)

-- the step of a keep table comes after its match table, and no other makes the table
pub record KeepFits (before : List Step) (r : ℕ) (unless : List Unless) : Type 0 where
  pub rule : r < length (match_widths before)
  pub one : ¬ (r ∈ rules_with_keep before)
  pub parts : Each unless (UnlessFits before r)

-- a column of the match table of rule r, a literal, or the null of an existential variable
abbrev pub OutFits : List Step → ℕ → Out → Type 0
OutFits before r (Column c) = HasColumn before r c
OutFits before r (Literal text) = Unit {0}
OutFits before r (Skolem v) = Unit {0}

-- an insert reads the keep table of its rule, made before it, exactly if the script makes one
abbrev pub ReadsKept : List Step → List Step → ℕ → Bool → Type 0
ReadsKept steps before r true = r ∈ rules_with_keep before
ReadsKept steps before r false = ¬ (r ∈ rules_with_keep steps)

-- an insert comes after its target table and its match table, and has a value for each column
pub record InsertFits (target : List TableNames) (steps before : List Step) (table : Text) (r : ℕ)
    (kept : Bool) (cells : List Out) : Type 0 where
  pub made : table ∈ map (λ (t : Text × List Text). t.0) (created before)
  pub width : length cells ≡ length (table_numbered target (table_named target table)).columns
  pub rule : r < length (match_widths before)
  pub reads : ReadsKept steps before r kept
  pub outs : Each cells (OutFits before r)

-- ---- scripts

-- a step, after the steps before it
abbrev pub StepFits : List TableNames → List TableNames → List Conversion → List Step → List Step → Step → Type 0
StepFits source target list steps before (Create table columns) = Unit {0}
StepFits source target list steps before (MatchRows r select sources equal) =
    MatchFits source list before r select sources equal
StepFits source target list steps before (KeepRows r unless) = KeepFits before r unless
StepFits source target list steps before (InsertRows table r kept cells) =
    InsertFits target steps before table r kept cells

-- a script fits: it creates the target's tables in order, and each step fits after those before it
pub record FitsScript (source target : List TableNames) (list : List Conversion) (steps : List Step) : Type 0 where
  pub creates : created steps ≡ map (λ (t : TableNames). (t.name, t.columns)) target
  pub each : (before after : List Step) (step : Step) → steps ≡ before ++ step ∷ after
      → StepFits source target list steps before step
