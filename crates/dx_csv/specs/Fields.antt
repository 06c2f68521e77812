-- Fields that stand one after the other in a buffer, and records that are cut of them.
use Rattle.std.specs.Prelude.{◌≡◌, ◌++◌, ℕ, zero, suc, List, [], ◌∷◌, All, length, take, drop, string_bytes, IsUtf8}
use Rattle.csv.specs.Records.{AllText, Rising, cut_from, last_end}
use Rattle.dx_csv.specs.declared.fields.Fields.{Fields}
use Rattle.dx_csv.specs.Table.{IsWholeRecord}

-- the fields that stand in the buffer
abbrev pub fields_in : Fields → List (List ℕ)
fields_in f = cut_from 0 f.ends.items (string_bytes f.text)

-- these fields stand in the buffer, and nothing else, and each is a text
pub record HaveFields (f : Fields) (fields : List (List ℕ)) : Type 0 where
  pub rising : Rising 0 f.ends.items (length (string_bytes f.text))
  pub last : last_end 0 f.ends.items ≡ length (string_bytes f.text)
  pub is : fields_in f ≡ fields
  pub text : AllText fields

-- these fields stand in the buffer, and after them what there is of the next one
pub record HaveOpen (f : Fields) (fields : List (List ℕ)) (part : List ℕ) : Type 0 where
  pub rising : Rising 0 f.ends.items (length (string_bytes f.text))
  pub after : drop (last_end 0 f.ends.items) (string_bytes f.text) ≡ part
  pub is : fields_in f ≡ fields
  pub text : AllText fields
  pub utf8 : IsUtf8 part

-- one field more stands in the buffer
abbrev pub GrowsBy : Fields → Fields → List ℕ → Type 0
GrowsBy old new field = (fields : List (List ℕ)) → HaveFields old fields → HaveFields new (fields ++ field ∷ [])

-- the fields of records, in order
abbrev pub flat : List (List (List ℕ)) → List (List ℕ)
flat [] = []
flat (fields ∷ records) = fields ++ flat records

-- so many records of so many fields each, cut off one after the other
abbrev pub records_in : ℕ → ℕ → List (List ℕ) → List (List (List ℕ))
records_in zero width fields = []
records_in (suc n) width fields = take width fields ∷ records_in n width (drop width fields)

-- these fields are those of the records under the header, so many as there are columns in each record
pub record AreFields (records : List (List (List ℕ))) (columns : List (List ℕ)) (fields : List (List ℕ))
    (count : ℕ) : Type 0 where
  pub under : List (List (List ℕ))
  pub header : records ≡ columns ∷ under
  pub whole : All (IsWholeRecord columns) under
  pub is : fields ≡ flat under
  pub many : count ≡ length under
