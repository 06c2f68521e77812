-- What the words of conditions name: the first that is at fault, and the conditions by numbers.
use Rattle.std.specs.Prelude.{ℕ, List, [], ◌∷◌, Option, cond, map, nat_eq}
use Rattle.std.specs.Cmp.Lexicographic.{pointwise}
use Rattle.dx_base.specs.Firsts.{first_of}
use Rattle.dx_base.specs.Members.{◌∈◌}
use Rattle.dx_base.specs.Texts.{Text}
use Rattle.dx_schema.specs.Forest.{Forest}
use Rattle.dx_funcs.specs.declared.row_test.RowTest.{RowTest}
use Rattle.dx_tokens.specs.declared.faults.TextFault.{TextFault}
use Rattle.dx_schema_text.specs.declared.texts.OnlyText.{OnlyText}
use Rattle.dx_lines.specs.declared.line.Condition.{Condition}
use Rattle.dx_line_text.specs.Naming.{name_fault, place_fault, place_of_text}

-- the names of row tests
abbrev pub test_names : List RowTest → List Text
test_names list = map (λ (t : RowTest). t.name) list

-- the code of the first row test of this name; 0 if there is none
abbrev pub test_code : List RowTest → Text → ℕ
test_code [] name = 0
test_code (t ∷ ts) name = cond (pointwise nat_eq t.name name) t.code (test_code ts name)

-- of a condition its column is looked at, after the column's set, and then its test
abbrev pub condition_fault : Forest → List RowTest → OnlyText → Option TextFault
condition_fault f list o = first_of (place_fault f o.place ∷ name_fault (test_names list) o.test o.test_place ∷ [])

-- the first fault of conditions, in their order
abbrev pub conditions_fault : Forest → List RowTest → List OnlyText → Option TextFault
conditions_fault f list os = first_of (map (condition_fault f list) os)

-- a condition, by the numbers of what it names
abbrev pub condition_of : Forest → List RowTest → OnlyText → Condition
condition_of f list o = record { place = place_of_text f o.place; code = test_code list o.test }

-- conditions, by the numbers of what they name
abbrev pub conditions_of : Forest → List RowTest → List OnlyText → List Condition
conditions_of f list os = map (condition_of f list) os

-- the row test of a condition is listed
abbrev pub ConditionIsListed : List RowTest → Condition → Type 0
ConditionIsListed list c = c.code ∈ map (λ (t : RowTest). t.code) list
