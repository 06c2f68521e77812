-- The text of records and of tables.
use Rattle.std.specs.Prelude.{◌≡◌, ℕ, List, [], ◌∷◌, map}
use Rattle.std.specs.List.{flat_map}
use Rattle.csv.specs.Reading.{strip_bom}
use Rattle.csv.specs.Writing.{default_writer, row_text}
use Rattle.dx_base.specs.Members.{◌⊆◌}
use Rattle.dx_model.specs.declared.values.Value.{Value}
use Rattle.dx_model.specs.Values.{RowsAscend}
use Rattle.dx_instance.specs.ValueText.{value_text_of}
use Rattle.dx_csv.specs.Table.{table_records}

-- the text of these records, one after the other
abbrev pub records_text : List (List (List ℕ)) → List ℕ
records_text records = flat_map (row_text default_writer) records

-- the records of a table: the columns, and the value texts of each row
abbrev pub records_of_table : List (List ℕ) → List (List Value) → List (List (List ℕ))
records_of_table columns rows = columns ∷ map (map value_text_of) rows

-- the first column does not begin with the bytes of a byte order mark
abbrev pub HasNoMark : List (List ℕ) → Type 0
HasNoMark [] = Unit {0}
HasNoMark (first ∷ rest) = strip_bom first ≡ first

-- the text of a table: its columns and then its rows, ascending, which is read as just these records
pub record IsTableText (columns : List (List ℕ)) (rows : List (List Value)) (text : List ℕ) : Type 0 where
  pub sorted : List (List Value)
  pub ascend : RowsAscend sorted
  pub kept : rows ⊆ sorted
  pub only : sorted ⊆ rows
  pub is : text ≡ records_text (records_of_table columns sorted)
  pub reads : table_records text ≡ records_of_table columns sorted
