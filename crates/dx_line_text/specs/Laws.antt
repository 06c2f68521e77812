-- The law of names.
use Rattle.std.specs.Prelude.{◌≡◌, ◌⊎◌, ℕ, List, Some}
use Rattle.dx_schema.specs.Forest.{Forest}
use Rattle.dx_funcs.specs.declared.conversion.Conversion.{Conversion}
use Rattle.dx_funcs.specs.declared.row_test.RowTest.{RowTest}
use Rattle.dx_tokens.specs.declared.faults.TextFault.{TextFault}
use Rattle.dx_tokens.specs.declared.faults.TextFault.TheVariants.{At}
use Rattle.dx_tokens.specs.declared.faults.TextKind.TheVariants.{UnknownName, Width}
use Rattle.dx_schema_text.specs.declared.texts.LineText.{LineText}
use Rattle.dx_schema_text.specs.declared.texts.OnlyText.{OnlyText}
use Rattle.dx_line_text.specs.Naming.{lines_fault}
use Rattle.dx_line_text.specs.Conditions.{conditions_fault}

-- a word that names nothing, or another number of arguments
abbrev pub IsOfNames : TextFault → Type 0
IsOfNames e = (place : ℕ) × ((e ≡ At place UnknownName) ⊎ (e ≡ At place Width))

-- a fault of lines is a word that names nothing, or another number of arguments
abbrev pub NamesAlone : Type 0
NamesAlone =
    (source target : Forest) (list : List Conversion) (lines : List LineText) (e : TextFault)
    → lines_fault source target list lines ≡ Some e → IsOfNames e

-- a fault of conditions is a word that names nothing
abbrev pub UnknownAlone : Type 0
UnknownAlone =
    (source : Forest) (list : List RowTest) (conditions : List OnlyText) (e : TextFault)
    → conditions_fault source list conditions ≡ Some e → (place : ℕ) × (e ≡ At place UnknownName)
