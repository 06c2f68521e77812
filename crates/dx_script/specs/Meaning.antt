-- What a script means on the rows of a source.
use Rattle.std.specs.Prelude.{◌≡◌, ◌↔◌, ℕ, ◌<◌, Bool, IsTrue, List, [], map, length, slice_index_or}
use Rattle.dx_base.specs.Members.{◌∈◌}
use Rattle.dx_base.specs.Texts.{Text}
use Rattle.dx_model.specs.Values.{Tuple, Rows}
use Rattle.dx_model.specs.declared.values.Value.{Value}
use Rattle.dx_model.specs.declared.values.Value.TheVariants.{Const, Null}
use Rattle.dx_model.specs.declared.facts.Fact.{Fact}
use Rattle.dx_model.specs.Rules.{TuplesAscend}
use Rattle.dx_model.specs.Covers.{tuple_at}
use Rattle.dx_schema.specs.Names.{TableNames}
use Rattle.dx_script.specs.declared.form.CellRef.{CellRef}
use Rattle.dx_script.specs.declared.form.Select.{Select}
use Rattle.dx_script.specs.declared.form.Select.TheVariants.{Cell, Call}
use Rattle.dx_script.specs.declared.form.Equal.{Equal}
use Rattle.dx_script.specs.declared.form.Test.{Test}
use Rattle.dx_script.specs.declared.form.Test.TheVariants.{Columns, Literal as Same}
use Rattle.dx_script.specs.declared.form.Unless.{Unless}
use Rattle.dx_script.specs.declared.form.Out.{Out}
use Rattle.dx_script.specs.declared.form.Out.TheVariants.{Column, Literal, Skolem}
use Rattle.dx_script.specs.declared.form.Step.{Step}
use Rattle.dx_script.specs.declared.form.Step.TheVariants.{MatchRows, KeepRows, InsertRows}
use Rattle.dx_script.specs.Names.{table_named, column_named}

-- ---- match tables

-- the number of the source table of an alias
abbrev pub table_of_alias : List TableNames → List Text → ℕ → ℕ
table_of_alias source sources alias = table_named source (slice_index_or sources alias [])

-- the text of a cell, if each alias has a row of texts
abbrev pub alias_cell_text : List TableNames → List Text → (ℕ → Tuple) → CellRef → Text
alias_cell_text source sources rows c =
    slice_index_or (rows c.alias) (column_named source (table_of_alias source sources c.alias) c.column) []

-- the text that is selected, if each alias has a row of texts
abbrev pub selected : List TableNames → (Text → Tuple → Text) → List Text → (ℕ → Tuple) → Select → Text
selected source call sources rows (Cell c) = alias_cell_text source sources rows c
selected source call sources rows (Call name args) = call name (map (alias_cell_text source sources rows) args)

-- each alias has a row of its source table, and cells that are to be equal have one text
pub record IsAssignment (source : List TableNames) (I : List Fact) (sources : List Text)
    (equal : List Equal) (rows : ℕ → Tuple) : Type 0 where
  pub of_source : (alias : ℕ) → alias < length sources
      → record { table = table_of_alias source sources alias; row = map Const (rows alias) } ∈ I
  pub agree : (e : Equal) → e ∈ equal
      → alias_cell_text source sources rows e.left ≡ alias_cell_text source sources rows e.right

-- a match table: it ascends, and has exactly the tuples that the assignments select
pub record IsMatchTable (source : List TableNames) (call : Text → Tuple → Text) (I : List Fact)
    (select : List Select) (sources : List Text) (equal : List Equal) (tuples : List Tuple) : Type 0 where
  pub ascend : TuplesAscend tuples
  pub exact : (t : Tuple) → (t ∈ tuples)
      ↔ ((rows : ℕ → Tuple) × IsAssignment source I sources equal rows
      × (t ≡ map (selected source call sources rows) select))

-- the match table of rule r
abbrev pub match_table : Rows → ℕ → List Tuple
match_table tables r = slice_index_or tables r []

-- the text in a column of a tuple
abbrev pub in_column : Tuple → ℕ → Text
in_column t c = slice_index_or t c []

-- ---- keep tables

-- a tuple of another match table makes the test of a tuple true
abbrev pub MakesTrue : Tuple → Tuple → Test → Type 0
MakesTrue own other (Columns c d) = in_column other c ≡ in_column own d
MakesTrue own other (Same d text) = in_column own d ≡ text

-- no tuple of the other match tables makes all the tests of a part true
abbrev pub HasNoPartner : Rows → List Unless → Tuple → Type 0
HasNoPartner tables unless own =
    (u : Unless) → u ∈ unless → (other : Tuple) → other ∈ match_table tables u.rule
    → ¬ ((t : Test) → t ∈ u.tests → MakesTrue own other t)

-- the tuple is in the keep table of rule r
abbrev pub IsInKeepTable : List Step → Rows → ℕ → Tuple → Type 0
IsInKeepTable steps tables r own = (unless : List Unless) → KeepRows r unless ∈ steps → HasNoPartner tables unless own

-- ---- inserts

-- what stands in a column of the target, for the tuple t at place k of the match table of rule r
abbrev pub inserted : ℕ → ℕ → Tuple → Out → Value
inserted r k t (Column c) = Const (in_column t c)
inserted r k t (Literal text) = Const text
inserted r k t (Skolem v) = Null (record { rule = r; var = v; row = k })

-- an insert step makes the fact
pub record IsInserted (target : List TableNames) (steps : List Step) (tables : Rows) (f : Fact) : Type 0 where
  pub table : Text
  pub rule : ℕ
  pub kept : Bool
  pub cells : List Out
  pub step : InsertRows table rule kept cells ∈ steps
  pub place : ℕ
  pub within : place < length (match_table tables rule)
  pub stays : IsTrue kept → IsInKeepTable steps tables rule (tuple_at tables rule place)
  pub is : record {
    table = table_named target table;
    row = map (inserted rule place (tuple_at tables rule place)) cells;
  } ≡ f

-- ---- scripts

-- a script means these match tables and these facts on the rows I of a source
pub record Means (source target : List TableNames) (call : Text → Tuple → Text) (steps : List Step)
    (I : List Fact) (tables : Rows) (K : List Fact) : Type 0 where
  pub matches : (r : ℕ) (select : List Select) (sources : List Text) (equal : List Equal)
      → MatchRows r select sources equal ∈ steps
      → (r < length tables) × IsMatchTable source call I select sources equal (match_table tables r)
  pub no_more : (r : ℕ) → r < length tables
      → (select : List Select) × (sources : List Text) × (equal : List Equal)
      × (MatchRows r select sources equal ∈ steps)
  pub facts : (f : Fact) → (f ∈ K) ↔ IsInserted target steps tables f
