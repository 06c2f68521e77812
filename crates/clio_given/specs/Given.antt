-- The given target of files: one file for each table of a schema, of as many bytes as are left.
use Rattle.std.specs.Prelude.{◌≡◌, ◌⊎◌, ◌-◌, ℕ, suc, List, [], ◌++◌, Some, length, take}
use Rattle.std.specs.Prelude.{slice_get, nat_lt, codes, if◌then◌else◌, Result, Ok, Err}
use Rattle.std.specs.List.{AllZip, range_with_len}
use Rattle.dx_base.specs.Members.{Each}
use Rattle.dx_base.specs.declared.file.Count.TheVariants.{GivenCells}
use Rattle.dx_base.specs.declared.limits.TheConstants.{GIVEN_CELLS}
use Rattle.dx_model.specs.declared.facts.Fact.{Fact}
use Rattle.dx_model.specs.declared.values.Value.{Value}
use Rattle.dx_model.specs.declared.values.Value.TheVariants.{Const}
use Rattle.dx_stages.specs.Stages.{Stage, next, each, by, over, computing, notions}
use Rattle.dx_schema.specs.Forest.{Forest}
use Rattle.dx_schema.specs.Tables.{schema_table, tables_of}
use Rattle.dx_instance.specs.Stored.{TableRows}
use Rattle.dx_instance.specs.ValueText.{ValueFits, value_text_of}
use Rattle.dx_csv.specs.Table.{AreTableRecords, table_records}
use Rattle.clio_source.specs.declared.fault.RowsFault.{RowsFault}
use Rattle.clio_source.specs.declared.fault.RowsFault.TheVariants.{Value as NoValue}
use Rattle.clio_source.specs.declared.fault.SourceRefusal.{SourceRefusal}
use Rattle.clio_source.specs.declared.fault.SourceRefusal.TheVariants as refusals
use Rattle.clio_source.specs.Source.{HaveFault, IsStored, ReadState, as_facts, fact_cells, csv_name, fetching, flat}

-- ---- values of fields

-- the value whose text the field is
abbrev pub IsValueOf : Value → Value → Type 0
IsValueOf field v = ValueFits v × (field ≡ Const (value_text_of v))

-- the fields of the rows are the texts of these values
abbrev pub ValuesOfFields : List (List Value) → List (List Value) → Type 0
ValuesOfFields fields rows = AllZip (AllZip IsValueOf) fields rows

-- a field of the row is no value's text
abbrev pub IsNoRow : List Value → Type 0
IsNoRow fields = (row : List Value) → ¬ (AllZip IsValueOf fields row)

-- record number r is the first of the rows that has such a field; the header is record 0
pub record IsFirstNoRow (rows : List (List Value)) (r : ℕ) : Type 0 where
  pub place : ℕ
  pub number : r ≡ suc place
  pub row : List Value
  pub is : slice_get rows place ≡ Some row
  pub no_row : IsNoRow row
  pub before : Each (take place rows) (λ (fields : List Value). ¬ (IsNoRow fields))

-- ---- one table

-- how many cells all given rows may have
abbrev pub given_cells : ℕ
given_cells = GIVEN_CELLS

abbrev pub too_many_given_cells : SourceRefusal
too_many_given_cells = refusals.Limit (record { what = GivenCells; number = given_cells })

-- the name of a table's file, in a folder of its own
abbrev pub given_name : List ℕ → List ℕ
given_name table = codes "given/" ++ csv_name table

-- the bytes are a table, of which record number r is the first with a field that is no value's text
abbrev pub HasNoValue : Forest → ℕ → List ℕ → ℕ → Type 0
HasNoValue f table bytes r =
    (rows : List (List Value))
    × AreTableRecords (table_records bytes) (schema_table f table).columns rows × IsFirstNoRow rows r

-- they have this fault: they are no table, or a record of it has no values
abbrev pub IsGivenRowsFault : Forest → ℕ → List ℕ → RowsFault → Type 0
IsGivenRowsFault f table bytes e =
    HaveFault flat f table bytes e ⊎ ((r : ℕ) × HasNoValue f table bytes r × (e ≡ NoValue r))

abbrev pub IsGivenFault : Forest → ℕ → ReadState × List ℕ → SourceRefusal → Type 0
IsGivenFault f table p e =
    (k : RowsFault) × IsGivenRowsFault f table p.1 k
    × (e ≡ refusals.Rows (given_name (schema_table f table).name) k)

-- they have none, and these are the values of the table's rows
abbrev pub SayRows : Forest → ℕ → List ℕ → List (List Value) → Type 0
SayRows f table bytes rows =
    (fields : List (List Value))
    × AreTableRecords (table_records bytes) (schema_table f table).columns fields × ValuesOfFields fields rows

abbrev pub SaysGivenRows : Forest → ℕ → ReadState × List ℕ → ReadState × List Fact → Type 0
SaysGivenRows f table p q =
    (rows : List (List Value)) × SayRows f table p.1 rows
    × (q ≡ (
      record {
        facts = p.0.facts;
        bytes_left = p.0.bytes_left - length p.1;
        cells_left = p.0.cells_left;
      },
      as_facts table rows,
    ))

-- the facts after those that were read before them, within the cells that are left
abbrev pub with_given_facts : Forest → ReadState × List Fact → Result ReadState SourceRefusal
with_given_facts f q = if nat_lt q.0.cells_left (fact_cells f q.1) then Err too_many_given_cells
    else Ok (record {
      facts = q.0.facts ++ q.1;
      bytes_left = q.0.bytes_left;
      cells_left = q.0.cells_left - fact_cells f q.1;
    })

-- what is read of the bytes of a table's file
abbrev pub given_loading : Forest → ℕ → Stage SourceRefusal (ReadState × List ℕ) ReadState
given_loading f table = next (notions (IsGivenFault f table) (SaysGivenRows f table)) (computing (with_given_facts f))

-- a table's file, and then what is read of it
abbrev pub given_reading : Forest → ℕ → Stage SourceRefusal ReadState ReadState
given_reading f table = next (fetching (given_name (schema_table f table).name)) (given_loading f table)

-- ---- all tables

-- the files of the tables, in order
abbrev pub given_files_stages : Forest → Stage SourceRefusal ReadState ReadState
given_files_stages f = each (given_reading f) (range_with_len 0 (length (tables_of f)))

-- nothing was read, and so many bytes may come
abbrev pub none_read : ℕ → ReadState
none_read bytes = record { facts = []; bytes_left = bytes; cells_left = given_cells }

-- the instance of the facts that were read
abbrev pub given_storing : Forest → Stage SourceRefusal ReadState (List TableRows)
given_storing f = notions (λ r e. ⊥) (λ r I. IsStored f r.facts I)

-- what is asked for: the given target of a schema, in files of so many bytes
pub record TargetRequest : Type 0 where
  pub schema : Forest
  pub bytes_left : ℕ

-- the given files of the tables of a schema, in order, and the instance of their rows
abbrev pub given_stages : Stage SourceRefusal TargetRequest (List TableRows)
given_stages =
    by (λ (w : TargetRequest). over (λ (_ : TargetRequest). none_read w.bytes_left)
    (next (given_files_stages w.schema) (given_storing w.schema)))
