-- The laws of instances, null maps and value texts. Each is the clause of a public function with an empty body.
use Rattle.std.specs.Prelude.{◌≡◌, ◌↔◌, ℕ, List, length, map}
use Rattle.dx_base.specs.Members.{Each}
use Rattle.dx_model.specs.declared.values.NullId.{NullId}
use Rattle.dx_model.specs.declared.values.Value.{Value}
use Rattle.dx_model.specs.Instances.{given}
use Rattle.dx_model.specs.Tables.{IsInstance, Table}
use Rattle.dx_model.specs.Values.{FactsAscend, RowsAscend}
use Rattle.dx_instance.specs.NullMaps.{ByNull, becomes, pairs_of}
use Rattle.dx_instance.specs.Stored.{TableRows, facts, rows_of, widths}
use Rattle.dx_instance.specs.ValueText.{IsNoValueText, ValueFits, value_text_of}

-- the pairs of a null map give what the map gives
abbrev pub PairsGive : Type 0
PairsGive = (m : ByNull) (n : NullId) → given (pairs_of m) n ≡ becomes m n

-- the facts of tables whose rows ascend ascend
abbrev pub SortedFactsAscend : Type 0
SortedFactsAscend = (I : List TableRows) → ((t : ℕ) → RowsAscend (rows_of I t)) → FactsAscend (facts I)

-- tables that are as wide as those of a schema hold an instance of it
abbrev pub WidthsMakeInstance : Type 0
WidthsMakeInstance =
    (schema : List Table) (I : List TableRows) → widths I ≡ map (λ (t : Table). t.width) schema
    → Each I (λ t. Each t.rows (λ (row : List Value). length row ≡ t.width)) → IsInstance schema (facts I)

-- two values with the same text are one
abbrev pub ValueTextsDiffer : Type 0
ValueTextsDiffer = (v w : Value) → ValueFits v → ValueFits w → value_text_of v ≡ value_text_of w → v ≡ w

-- a text is no value's exactly if it begins with `?`, after which come no other `?` and no three numerals
abbrev pub NoValueTexts : Type 0
NoValueTexts = (text : List ℕ) → ((v : Value) → ValueFits v → ¬ (value_text_of v ≡ text)) ↔ IsNoValueText text
