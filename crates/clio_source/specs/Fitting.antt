-- What the code has of what was read: rows of the tables, as numbers of symbols.
use Rattle.std.specs.Prelude.{◌≡◌, ◌≤◌, ◌<◌, ℕ, ◌+◌, List, [], ◌++◌, map, length, take, Result, Ok, Err}
use Rattle.dx_base.specs.Members.{Each, ◌≈◌}
use Rattle.dx_ports.specs.States.{InputState}
use Rattle.dx_model.specs.declared.values.Value.{Value}
use Rattle.dx_model.specs.declared.facts.Fact.{Fact}
use Rattle.dx_model.specs.Tables.{IsInstance}
use Rattle.dx_stages.specs.declared.stop.Stop.{Stop}
use Rattle.dx_stages.specs.declared.stop.Stop.TheVariants as stops
use Rattle.dx_stages.specs.Stages.{Stage}
use Rattle.dx_stages.specs.Running.{Gives, Ran}
use Rattle.dx_schema.specs.Forest.{Forest}
use Rattle.dx_schema.specs.Tables.{count, model_tables, schema_widths, tables_of, tree_at}
use Rattle.dx_instance.specs.Cells.{NumberTable}
use Rattle.dx_instance.specs.Shown.{NumberRowsFit, numbers_of_table, shown_row, shown_tables}
use Rattle.dx_instance.specs.Stored.{facts}
use Rattle.dx_used.specs.Used.{AgreeOnUsed, Marks}
use Rattle.clio_source.specs.declared.reading.Reading.{Reading}
use Rattle.clio_source.specs.declared.fault.RowsFault.{RowsFault}
use Rattle.clio_source.specs.declared.fault.SourceRefusal.{SourceRefusal}
use Rattle.clio_source.specs.declared.fault.SourceRefusal.TheVariants as refusals
use Rattle.clio_source.specs.Source.{RootShape, HaveFault, ReadState, fact_cells, source_cells}
use Rattle.clio_source.specs.Agreeing.{AllBlanked}

-- the rows that numbers of symbols show
abbrev pub rows_shown : List Value → NumberTable → List (List Value)
rows_shown symbols t = map (shown_row symbols) t.rows

-- the first n tables of a schema were come to: as many columns as these have, and numbers of the symbols
pub record ReadFits (f : Forest) (n : ℕ) (r : Reading) : Type 0 where
  pub widths : map (λ (t : NumberTable). t.width) r.tables.items ≡ take n (schema_widths f)
  pub below : Each r.tables.items (NumberRowsFit (length r.symbols))
  pub few : r.cells_left ≤ source_cells

-- on the used columns the tables agree with the facts that were read
pub record Holds (used : Marks) (r : Reading) (q : ReadState) : Type 0 where
  pub agree : AgreeOnUsed used q.facts (facts (shown_tables r.symbols r.tables.items))
  pub bytes : r.bytes_left ≡ q.bytes_left
  pub cells : r.cells_left ≡ q.cells_left

-- nothing is in the columns of flat roots that are not used
abbrev pub UnusedAreBlank : Marks → Forest → Reading → Type 0
UnusedAreBlank used f r = AllBlanked used f (facts (shown_tables r.symbols r.tables.items))

-- the stage ran so, and the tables agree with what it passes
abbrev pub RanTo : {A : Type 0} → Marks → Stage SourceRefusal A ReadState → A
    → Result Reading (Stop SourceRefusal) → InputState → InputState → Type 0
RanTo used s a (Ok r) old new = (q : ReadState) × Holds used r q × Ran s a (Ok q) old new
RanTo used s a (Err e) old new = Ran s a (Err e) old new

-- the stage gives it in every world, and the tables agree with it
abbrev pub GivesTo : {A : Type 0} → Marks → Stage SourceRefusal A ReadState → A
    → Result Reading (Stop SourceRefusal) → Type 0
GivesTo used s a (Ok r) = (q : ReadState) × Holds used r q × Gives s a (Ok q)
GivesTo used s a (Err e) = Gives s a (Err e)

-- why the facts of a file's bytes were not read
abbrev pub NotRead : RootShape → Forest → ℕ → List ℕ → List ℕ → Stop SourceRefusal → Type 0
NotRead form f root bytes name (stops.Refused e) =
    (k : RowsFault) × HaveFault form f root bytes k × (e ≡ refusals.Rows name k)
NotRead form f root bytes name (stops.Failed n) = ⊥
NotRead form f root bytes name stops.Memory = Unit {0}

-- ---- the tables of a root and its inner sets

-- after these tables come empty ones, up to the table of a schema with this number
pub record AddsEmpty (f : Forest) (last : ℕ) (old new : List NumberTable) : Type 0 where
  pub more : List NumberTable
  pub is : new ≡ old ++ more
  pub widths : map (λ (t : NumberTable). t.width) new ≡ take last (schema_widths f)
  pub some : Each more (λ t. 1 ≤ t.width)
  pub empty : Each more (λ t. t.rows ≡ [])

-- each fact has one of the tables from the first on, and its width; these have no rows yet
pub record CanTake (ts : List NumberTable) (first : ℕ) (said : List Fact) : Type 0 where
  pub within : Each said (λ fact. (first ≤ fact.table) × (fact.table < length ts))
  pub wide : Each said (λ fact. length fact.row ≡ (numbers_of_table ts fact.table).width)
  pub empty : (t : ℕ) → first ≤ t → (numbers_of_table ts t).rows ≡ []

-- A root can be added to these tables with these facts: they are those of the roots before it, with numbers of the
-- symbols; the facts fit the schema, each is of the root or of one of its inner sets,
-- and they have no more cells than a source may have.
pub record CanAddRoot (f : Forest) (root : ℕ) (S : List Value) (ts : List NumberTable) (said : List Fact) : Type 0 where
  pub inside : root < length (tables_of f)
  pub widths : map (λ (t : NumberTable). t.width) ts ≡ take root (schema_widths f)
  pub below : Each ts (NumberRowsFit (length S))
  pub fit : IsInstance (model_tables f) said
  pub within : Each said (λ fact. (root ≤ fact.table) × (fact.table < root + 1 + count (tree_at f root).inner))
  pub cells : fact_cells f said ≤ source_cells

-- the tables have these facts besides
pub record AddsFacts (S T : List Value) (old new : List NumberTable) (said : List Fact) : Type 0 where
  pub shown : facts (shown_tables T new) ≈ (facts (shown_tables S old) ++ said)
  pub widths : map (λ (t : NumberTable). t.width) new ≡ map (λ (t : NumberTable). t.width) old
  pub below : Each new (NumberRowsFit (length T))

-- empty tables of a root came, up to the table of a schema with this number, and then these facts
pub record AddsRoot (f : Forest) (last : ℕ) (S T : List Value) (old new : List NumberTable)
    (said : List Fact) : Type 0 where
  pub between : List NumberTable
  pub empty : AddsEmpty f last old between
  pub put : AddsFacts S T between new said
