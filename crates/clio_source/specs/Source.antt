-- The source of files, one stage after the other.
use Rattle.std.specs.Prelude.{◌≡◌, ◌-◌, ◌<◌, ℕ, List, [], ◌++◌, length, map, sum_by}
use Rattle.std.specs.Prelude.{nat_lt, codes, if◌then◌else◌, None, Result, Ok, Err}
use Rattle.dx_base.specs.Members.{◌≈◌}
use Rattle.dx_base.specs.declared.file.Count.TheVariants.{DataBytes, SourceCells}
use Rattle.dx_base.specs.declared.limits.TheConstants.{DATA_BYTES, SOURCE_CELLS}
use Rattle.dx_model.specs.declared.values.Value.{Value}
use Rattle.dx_model.specs.declared.facts.Fact.{Fact}
use Rattle.dx_model.specs.Values.{RowsAscend}
use Rattle.dx_stages.specs.Stages.{Stage, next, each, by, over, into, file, computing, notions}
use Rattle.dx_schema.specs.Forest.{Forest, none, set}
use Rattle.dx_schema.specs.Tables.{level_numbers, schema_widths, schema_table, tables_of, tree_at}
use Rattle.dx_lines.specs.declared.line.Condition.{Condition}
use Rattle.dx_instance.specs.Stored.{TableRows, facts, rows_of, widths}
use Rattle.dx_used.specs.Passing.{Passes, passing}
use Rattle.dx_csv.specs.declared.fault.RowKind.{RowKind}
use Rattle.dx_csv.specs.Table.{IsAtFault, AreTableRecords, table_records}
use Rattle.dx_json.specs.declared.fault.JsonKind.{JsonKind}
use Rattle.dx_json.specs.Documents.{IsFirstDocumentFault, SaysFacts}
use Rattle.clio_source.specs.declared.fault.RowsFault.{RowsFault}
use Rattle.clio_source.specs.declared.fault.RowsFault.TheVariants.{Absent, Csv, Json}
use Rattle.clio_source.specs.declared.fault.SourceRefusal.{SourceRefusal}
use Rattle.clio_source.specs.declared.fault.SourceRefusal.TheVariants as refusals

-- how many bytes all source files may have, and how many cells all their facts
abbrev pub data_bytes : ℕ
data_bytes = DATA_BYTES

abbrev pub source_cells : ℕ
source_cells = SOURCE_CELLS

abbrev pub too_many_bytes : SourceRefusal
too_many_bytes = refusals.Limit (record { what = DataBytes; number = data_bytes })

abbrev pub too_many_cells : SourceRefusal
too_many_cells = refusals.Limit (record { what = SourceCells; number = source_cells })

-- ---- the files

-- the name of a table's file
abbrev pub csv_name : List ℕ → List ℕ
csv_name table = table ++ codes ".csv"

-- the name of the file of a root with its inner sets
abbrev pub json_name : List ℕ → List ℕ
json_name table = table ++ codes ".json"

-- the roots of a schema, in order: the tables of the sets of its top level
abbrev pub roots : Forest → List ℕ
roots f = level_numbers 0 f

-- a root is a table without a parent
pub record IsRoot (f : Forest) (u : ℕ) : Type 0 where
  pub within : u < length (tables_of f)
  pub parent : (schema_table f u).parent ≡ None

-- a root without inner sets is flat: its file is a table. One with inner sets is nested: its file is a document
pub data RootShape : Type 0 where
  flat : RootShape
  nested : RootShape

abbrev pub shape_of : Forest → RootShape
shape_of none = flat
shape_of (set l inner rest) = nested

abbrev pub shape_at : Forest → ℕ → RootShape
shape_at f root = shape_of (tree_at f root).inner

abbrev pub named_by : RootShape → List ℕ → List ℕ
named_by flat root = csv_name root
named_by nested root = json_name root

-- the name of a root's file
abbrev pub file_at : Forest → ℕ → List ℕ
file_at f root = named_by (shape_at f root) (schema_table f root).name

-- ---- what the bytes of a root's file say

-- rows of a table, as facts
abbrev pub as_facts : ℕ → List (List Value) → List Fact
as_facts table rows = map (λ (row : List Value). record { table = table; row = row }) rows

-- these facts: those of the rows of the table, or those of the document
abbrev pub SayFacts : RootShape → Forest → ℕ → List ℕ → List Fact → Type 0
SayFacts flat f root bytes facts =
    (rows : List (List Value)) × AreTableRecords (table_records bytes) (schema_table f root).columns rows
    × (facts ≡ as_facts root rows)
SayFacts nested f root bytes facts = SaysFacts bytes f root facts

-- or that they are no such file, with its first fault
abbrev pub HaveFault : RootShape → Forest → ℕ → List ℕ → RowsFault → Type 0
HaveFault flat f root bytes e =
    (k : RowKind) × IsAtFault (table_records bytes) (schema_table f root).columns k × (e ≡ Csv k)
HaveFault nested f root bytes e = (k : JsonKind) × IsFirstDocumentFault bytes f root k × (e ≡ Json k)

-- ---- one root

-- the facts that were read so far, and how many bytes and cells may still come
pub record ReadState : Type 0 where
  pub facts : List Fact
  pub bytes_left : ℕ
  pub cells_left : ℕ

-- nothing was read
abbrev pub at_start : ReadState
at_start = record { facts = []; bytes_left = data_bytes; cells_left = source_cells }

-- the file of this name, of at most as many bytes as are left, beside what was read before it
abbrev pub fetching : List ℕ → Stage SourceRefusal ReadState (ReadState × List ℕ)
fetching name =
    into (λ (r : ReadState) (bytes : List ℕ). (r, bytes))
    (by (λ (r : ReadState). file name r.bytes_left (refusals.Rows name Absent) too_many_bytes))

-- its bytes have a fault
abbrev pub IsSourceFault : RootShape → Forest → ℕ → ReadState × List ℕ → SourceRefusal → Type 0
IsSourceFault form f root p e =
    (k : RowsFault) × HaveFault form f root p.1 k × (e ≡ refusals.Rows (named_by form (schema_table f root).name) k)

-- they have none, and say these facts
abbrev pub SaysSourceFacts : RootShape → Forest → ℕ → ReadState × List ℕ → ReadState × List Fact → Type 0
SaysSourceFacts form f root p q =
    (said : List Fact) × SayFacts form f root p.1 said
    × (q ≡ (record { facts = p.0.facts; bytes_left = p.0.bytes_left - length p.1; cells_left = p.0.cells_left }, said))

-- how many cells facts have: each as many as its table has columns
abbrev pub fact_cells : Forest → List Fact → ℕ
fact_cells f said = sum_by (λ (fact : Fact). length (schema_table f fact.table).columns) said

-- the facts after those that were read before them, within the cells that are left
abbrev pub with_facts : Forest → ReadState × List Fact → Result ReadState SourceRefusal
with_facts f q = if nat_lt q.0.cells_left (fact_cells f q.1) then Err too_many_cells
    else Ok (record {
      facts = q.0.facts ++ q.1;
      bytes_left = q.0.bytes_left;
      cells_left = q.0.cells_left - fact_cells f q.1;
    })

-- what is read of the bytes of a root's file
abbrev pub loading : RootShape → Forest → ℕ → Stage SourceRefusal (ReadState × List ℕ) ReadState
loading form f root =
    next (notions (IsSourceFault form f root) (SaysSourceFacts form f root)) (computing (with_facts f))

-- a root's file, and then what is read of it
abbrev pub reading : Forest → ℕ → Stage SourceRefusal ReadState ReadState
reading f root = next (fetching (file_at f root)) (loading (shape_at f root) f root)

-- ---- all roots

-- the files of the roots, in order
abbrev pub files_stages : Forest → Stage SourceRefusal ReadState ReadState
files_stages f = each (reading f) (roots f)

-- the instance has exactly these facts; the rows of each table ascend
pub record IsStored (f : Forest) (said : List Fact) (I : List TableRows) : Type 0 where
  pub widths_are : widths I ≡ schema_widths f
  pub ascend : (t : ℕ) → RowsAscend (rows_of I t)
  pub exact : facts I ≈ said

-- of the facts that were read those that pass the conditions
abbrev pub storing : Passes → List Condition → Forest → Stage SourceRefusal ReadState (List TableRows)
storing passes conditions f = notions (λ r e. ⊥) (λ r I. IsStored f (passing passes conditions r.facts) I)

-- what is asked for: the rows of the files of a schema's roots that pass conditions
pub record SourceRequest : Type 0 where
  pub schema : Forest
  pub conditions : List Condition

-- The files of a schema's roots, and the instance of the rows that pass the conditions. All rows are read, and the
-- cells of all count, before any is left out.
abbrev pub source_stages : Passes → Stage SourceRefusal SourceRequest (List TableRows)
source_stages passes =
    by (λ (w : SourceRequest). over (λ (_ : SourceRequest). at_start)
    (next (files_stages w.schema) (storing passes w.conditions w.schema)))

-- the same, beside the number of bytes that files read after these may have
abbrev pub source_left : Passes → Stage SourceRefusal SourceRequest (List TableRows × ℕ)
source_left passes =
    by (λ (w : SourceRequest). over (λ (_ : SourceRequest). at_start)
    (next (files_stages w.schema)
    (into (λ (r : ReadState) (I : List TableRows). (I, r.bytes_left)) (storing passes w.conditions w.schema))))
