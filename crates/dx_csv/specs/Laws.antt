-- The records of a table have one reading. Each law is a clause of a public function with an empty body.
use Rattle.std.specs.Prelude.{◌≡◌, ◌⊎◌, ◌≤◌, ◌∷◌, ℕ, List, length}
use Rattle.dx_base.specs.Members.{◌≈◌, Each}
use Rattle.dx_model.specs.declared.values.Value.{Value}
use Rattle.dx_instance.specs.ValueText.{ValueFits}
use Rattle.dx_csv.specs.declared.fault.RowKind.{RowKind}
use Rattle.dx_csv.specs.Print.{HasNoMark, IsTableText, records_text}
use Rattle.dx_csv.specs.Table.{IsAtFault, AreTableRecords, table_records}

-- records are a table of no two lists of rows
abbrev pub TableIsOne : Type 0
TableIsOne =
    (records : List (List (List ℕ))) (columns : List (List ℕ)) (a b : List (List Value))
    → AreTableRecords records columns a → AreTableRecords records columns b → a ≡ b

-- records have no two faults
abbrev pub OneRowFault : Type 0
OneRowFault =
    (records : List (List (List ℕ))) (columns : List (List ℕ)) (a b : RowKind)
    → IsAtFault records columns a → IsAtFault records columns b → a ≡ b

-- records are a table, or they have a fault
abbrev pub TableOrFault : Type 0
TableOrFault =
    (records : List (List (List ℕ))) (columns : List (List ℕ))
    → ((rows : List (List Value)) × AreTableRecords records columns rows)
    ⊎ ((k : RowKind) × IsAtFault records columns k)

-- and never both
abbrev pub NeverTableAndFault : Type 0
NeverTableAndFault =
    (records : List (List (List ℕ))) (columns : List (List ℕ)) (rows : List (List Value)) (k : RowKind)
    → AreTableRecords records columns rows → ¬ (IsAtFault records columns k)

-- records with a field each, of which the first does not begin with a byte order mark, are printed as a text that is
-- read as just these records
abbrev pub PrintedReadsBack : Type 0
PrintedReadsBack =
    (first : List (List ℕ)) (rest : List (List (List ℕ)))
    → HasNoMark first → Each (first ∷ rest) (λ (r : List (List ℕ)). 1 ≤ length r)
    → table_records (records_text (first ∷ rest)) ≡ first ∷ rest

-- tables with the same columns and the same text have the same rows, if the values fit
abbrev pub TableTextsDiffer : Type 0
TableTextsDiffer =
    (columns : List (List ℕ)) (rows others : List (List Value)) (text : List ℕ)
    → Each rows (λ (r : List Value). Each r ValueFits) → Each others (λ (r : List Value). Each r ValueFits)
    → IsTableText columns rows text → IsTableText columns others text → rows ≈ others
