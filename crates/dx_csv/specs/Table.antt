-- What a table's bytes say under a list of columns, and where they are at fault.
use Rattle.std.specs.Prelude.{◌≡◌, ◌≢◌, ◌+◌, ℕ, List, [], ◌∷◌, ◌++◌, All, length, map, take, ⊤}
use Rattle.std.specs.List.{slice_get}
use Rattle.csv.specs.Records.{AllText}
use Rattle.csv.specs.Reading.{default_config, strip_bom, records as records_of}
use Rattle.dx_model.specs.declared.values.Value.{Value}
use Rattle.dx_model.specs.Values.{constants}
use Rattle.dx_csv.specs.declared.fault.RowFault.{RowFault}
use Rattle.dx_csv.specs.declared.fault.RowFault.TheVariants as fault
use Rattle.dx_csv.specs.declared.fault.RowKind.{RowKind}
use Rattle.dx_csv.specs.declared.fault.RowKind.TheVariants as kind

-- the records of the bytes of a table
abbrev pub table_records : List ℕ → List (List (List ℕ))
table_records bytes = records_of default_config (strip_bom bytes)

-- a record with a text for each column
pub record IsWholeRecord (columns fields : List (List ℕ)) : Type 0 where
  pub width : length fields ≡ length columns
  pub text : AllText fields

-- the first place at which two lists differ, where one of them may have ended
pub record FirstDifference (xs ys : List (List ℕ)) (place : ℕ) : Type 0 where
  pub before : take place xs ≡ take place ys
  pub here : slice_get xs place ≢ slice_get ys place

-- the header is the columns, and under it stands for each row a record of the texts of its constants
pub record AreTableRecords (records : List (List (List ℕ))) (columns : List (List ℕ))
    (rows : List (List Value)) : Type 0 where
  pub under : List (List (List ℕ))
  pub header : records ≡ columns ∷ under
  pub whole : All (IsWholeRecord columns) under
  pub values : rows ≡ map constants under

-- the record of this number is the first that is not whole
pub record FirstFaulty (records : List (List (List ℕ))) (columns : List (List ℕ)) (number : ℕ)
    (fields : List (List ℕ)) : Type 0 where
  pub good : List (List (List ℕ))
  pub rest : List (List (List ℕ))
  pub header : records ≡ columns ∷ (good ++ (fields ∷ rest))
  pub whole : All (IsWholeRecord columns) good
  pub place : number ≡ length good + 1

-- the records have this fault
abbrev pub IsAtFault : List (List (List ℕ)) → List (List ℕ) → RowKind → Type 0
IsAtFault records columns kind.NoHeader = records ≡ []
IsAtFault records columns (kind.Header place) =
    (header : List (List ℕ)) × (rest : List (List (List ℕ))) × (records ≡ header ∷ rest)
    × FirstDifference header columns place
IsAtFault records columns (kind.Width number) =
    (fields : List (List ℕ)) × FirstFaulty records columns number fields × (length fields ≢ length columns)
IsAtFault records columns (kind.NotText number) =
    (fields : List (List ℕ)) × FirstFaulty records columns number fields
    × (length fields ≡ length columns) × ¬ (AllText fields)

-- why a table was not read: the records have the fault, or memory ran out
abbrev pub HasTableFault : List (List (List ℕ)) → List (List ℕ) → RowFault → Type 0
HasTableFault records columns (fault.Bad k) = IsAtFault records columns k
HasTableFault records columns fault.Memory = ⊤
