-- What insert steps make of the places of a rule.
use Rattle.std.specs.Prelude.{◌≡◌, ℕ, ◌<◌, IsTrue, cond, eqb, Bool, List, []}
use Rattle.std.specs.Prelude.{length, map, flat_map, slice_index, slice_index_or}
use Rattle.dx_base.specs.Members.{◌∈◌, Each}
use Rattle.dx_base.specs.Texts.{Text}
use Rattle.dx_model.specs.declared.facts.Fact.{Fact}
use Rattle.dx_model.specs.Values.{Tuple, Rows}
use Rattle.dx_schema.specs.Names.{TableNames}
use Rattle.dx_instance.specs.Cells.{NumberTable}
use Rattle.dx_instance.specs.Shown.{numbers_of_table}
use Rattle.dx_instance.specs.Stored.{TableRows, facts, widths}
use Rattle.dx_script.specs.declared.form.Out.{Out}
use Rattle.dx_script.specs.declared.form.Out.TheVariants.{Column, Literal, Skolem}
use Rattle.dx_script.specs.declared.form.Step.{Step}
use Rattle.dx_script.specs.declared.form.Unless.{Unless}
use Rattle.dx_script.specs.declared.form.Step.TheVariants.{Create, MatchRows, KeepRows, InsertRows}
use Rattle.dx_script.specs.Names.{table_named, table_names}
use Rattle.dx_script.specs.Meaning.{IsInserted, inserted}
use Rattle.dx_eval.specs.Keeping.{PartStands}
use Rattle.dx_eval.specs.Variables.{width_named}

-- the fact of a table that cells make of a place
abbrev pub placed_fact : ℕ → ℕ → List Tuple → List Out → ℕ → Fact
placed_fact table r tuples cells k =
    record { table = table; row = map (inserted r k (slice_index_or tuples k [])) cells }

-- the fact that an insert step makes of a place
abbrev pub inserted_fact : List TableNames → Text → ℕ → List Tuple → List Out → ℕ → Fact
inserted_fact target table r tuples cells k = placed_fact (table_named target table) r tuples cells k

-- the facts that a step makes of the places of rule r
abbrev pub inserted_facts : List TableNames → ℕ → List Tuple → List ℕ → Step → List Fact
inserted_facts target r tuples places (Create table columns) = []
inserted_facts target r tuples places (MatchRows s select sources equal) = []
inserted_facts target r tuples places (KeepRows s unless) = []
inserted_facts target r tuples places (InsertRows table s kept cells) =
    cond (eqb s r) (map (inserted_fact target table r tuples cells) places) []

-- the facts that the steps make of them
abbrev pub facts_by : List TableNames → List Step → ℕ → List Tuple → List ℕ → List Fact
facts_by target steps r tuples places = flat_map (inserted_facts target r tuples places) steps

-- an insert step makes the fact, of a rule below n
pub record IsInsertedBelow (target : List TableNames) (steps : List Step) (tables : Rows) (n : ℕ)
    (f : Fact) : Type 0 where
  pub step : IsInserted target steps tables f
  pub low : step.rule < n

-- a cell of an insert reads a column of a table of this width
abbrev pub OutStands : ℕ → Out → Type 0
OutStands width (Column c) = c < width
OutStands width (Literal text) = Unit {0}
OutStands width (Skolem v) = Unit {0}

-- the table is there, with a column for each of the cells, which read columns of rows of this width
pub record CellsFitTable (I : List TableRows) (table width : ℕ) (cells : List Out) : Type 0 where
  pub table_there : table < length I
  pub many : length cells ≡ slice_index (widths I) table
  pub outs : Each cells (OutStands width)

-- an insert step has a table of the target and a value for each of its columns
pub record InsertStands (target : List TableNames) (width : ℕ) (table : Text) (cells : List Out) : Type 0 where
  pub named : table ∈ table_names target
  pub many : length cells ≡ width_named target table
  pub outs : Each cells (OutStands width)

-- the keep and the insert steps read tables that are there, and columns of theirs;
-- an insert of a rule with a keep step reads what it keeps
pub record StepsStand (target : List TableNames) (steps : List Step) (tables : List NumberTable) : Type 0 where
  pub keeps : (r : ℕ) (unless : List Unless) → KeepRows r unless ∈ steps → Each unless (PartStands tables r)
  pub inserts : (table : Text) (r : ℕ) (kept : Bool) (cells : List Out) → InsertRows table r kept cells ∈ steps
      → InsertStands target (numbers_of_table tables r).width table cells
  pub reads : (table : Text) (r : ℕ) (kept : Bool) (cells : List Out) (unless : List Unless)
      → InsertRows table r kept cells ∈ steps → KeepRows r unless ∈ steps → IsTrue kept

-- the tables have these widths, and no rows
pub record HasNoFacts (ws : List ℕ) (I : List TableRows) : Type 0 where
  pub widths_are : widths I ≡ ws
  pub none : facts I ≡ []
