-- Employees and persons: lines and conditions with names that are there, and with names that aren't.
use Rattle.std.proofs.Common.{◌≡◌, ℕ, List, [], ◌∷◌, Option, Some, None, codes, refl, ap, ◌∙◌, arith}
use Rattle.dx_schema.specs.Forest.{Forest, none, set, bare_set}
use Rattle.dx_base.specs.Members.{here, there}
use Rattle.dx_base.specs.Texts.{Text}
use Rattle.dx_tokens.specs.declared.faults.TextFault.{TextFault}
use Rattle.dx_tokens.specs.declared.faults.TextFault.TheVariants.{At}
use Rattle.dx_tokens.specs.declared.faults.TextKind.TheVariants.{UnknownName, Width}
use Rattle.dx_schema_text.specs.declared.texts.PlaceText.{PlaceText}
use Rattle.dx_schema_text.specs.declared.texts.SourceText.TheVariants as sources
use Rattle.dx_schema_text.specs.declared.texts.LineText.{LineText}
use Rattle.dx_funcs.specs.declared.conversion.Conversion.{Conversion}
use Rattle.dx_lines.specs.declared.line.Place.{Place}
use Rattle.dx_lines.specs.declared.line.Origin.TheVariants as origins
use Rattle.dx_lines.specs.declared.line.Line.{Line}
use Rattle.dx_schema_text.specs.declared.texts.OnlyText.{OnlyText}
use Rattle.dx_funcs.specs.declared.row_test.RowTest.{RowTest}
use Rattle.dx_line_text.specs.Naming.{lines_fault, lines_of, IsOffered}
use Rattle.dx_line_text.specs.Conditions.{conditions_fault, conditions_of, ConditionIsListed}

-- a set of one level, with one column
abbrev flat : Text → Text → Forest → Forest
flat name column rest = set (bare_set name (column ∷ [])) none rest

-- offices and employees
abbrev employees : Forest
employees = flat (codes "office") (codes "city") (flat (codes "emp") (codes "name") none)

abbrev persons : Forest
persons = flat (codes "person") (codes "name") none

-- one conversion, of two texts
abbrev offer : List Conversion
offer = record { name = codes "pair"; code = 7; arity = 2 } ∷ []

abbrev fault : List LineText → Option TextFault
fault lines = lines_fault employees persons offer lines

abbrev at_place : Text → ℕ → Text → ℕ → PlaceText
at_place x i y j = record { set = x; set_place = i; column = y; column_place = j }

abbrev person_name : PlaceText
person_name = at_place (codes "person") 20 (codes "name") 27

-- emp.name, and the same with an unknown column, an unknown set, and with both
abbrev name : PlaceText
name = at_place (codes "emp") 5 (codes "name") 9

abbrev no_column : PlaceText
no_column = at_place (codes "emp") 5 (codes "nam") 9

abbrev city : PlaceText
city = at_place (codes "office") 12 (codes "city") 19

abbrev no_set : PlaceText
no_set = at_place (codes "em") 5 (codes "name") 9

abbrev neither : PlaceText
neither = at_place (codes "em") 5 (codes "nam") 9

abbrev line : PlaceText → LineText
line p = record { source = sources.Column p; target = person_name }

abbrev call : Text → List PlaceText → LineText
call name args = record { source = sources.Call name 2 args; target = person_name }

-- names that are there, by their numbers
read : fault (line name ∷ call (codes "pair") (name ∷ name ∷ []) ∷ []) ≡ None
read = refl

numbers :
    lines_of employees persons offer (line name ∷ call (codes "pair") (name ∷ name ∷ []) ∷ [])
    ≡ record { target = record { table = 0; column = 0 }; source = origins.Column (record { table = 1; column = 0 }) }
    ∷ record { target = record { table = 0; column = 0 }; source = origins.Call 7 (record { table = 1; column = 0 } ∷ record { table = 1; column = 0 } ∷ []) } ∷ []
numbers = refl

-- a place by numbers, and a line that calls a conversion of places
abbrev place_of : ℕ → ℕ → Place
place_of table column = record { table = table; column = column }

abbrev called : ℕ → List Place → Line
called code args = record { target = place_of 0 0; source = origins.Call code args }

-- the arguments of a conversion in their order, and the text of a literal
arguments :
    lines_of employees persons offer (call (codes "pair") (name ∷ city ∷ []) ∷ record { source = sources.Literal (codes "x"); target = person_name } ∷ [])
    ≡ called 7 (place_of 1 0 ∷ place_of 0 0 ∷ []) ∷ record { target = place_of 0 0; source = origins.Literal (codes "x") } ∷ []
arguments = refl

-- unit(#id, uname, place) with the inner set staff(#up, sname): columns are counted with #id and #up in front
abbrev units : Forest
units = set (bare_set (codes "unit") (codes "uname" ∷ codes "place" ∷ [])) (flat (codes "staff") (codes "sname") none) none

abbrev place_to_staff : LineText
place_to_staff = record { source = sources.Column (at_place (codes "unit") 5 (codes "place") 10); target = at_place (codes "staff") 20 (codes "sname") 26 }

columns_are_counted : lines_of units units offer (place_to_staff ∷ []) ≡ record { target = place_of 1 1; source = origins.Column (place_of 0 2) } ∷ []
columns_are_counted = refl

-- a conversion is offered with as many arguments as it takes, and neither with another number nor under another code
offered : IsOffered offer (called 7 (place_of 0 0 ∷ place_of 0 0 ∷ []))
offered = (record { name = codes "pair"; code = 7; arity = 2 }, here refl, refl, refl)

one_argument : ¬ IsOffered offer (called 7 (place_of 0 0 ∷ []))
one_argument (c, m, same_code, same_arity) = elim m [
  | here e ↦ let d : ◌≡◌ {A = ℕ} 2 1 = ap (λ (k : Conversion). k.arity) e ∙ same_arity in omega (arith, d)
  | there n ↦ elim n [ ]
]

other_code : ¬ IsOffered offer (called 2 (place_of 0 0 ∷ place_of 0 0 ∷ []))
other_code (c, m, same_code, same_arity) = elim m [
  | here e ↦ let d : ◌≡◌ {A = ℕ} 7 2 = ap (λ (k : Conversion). k.code) e ∙ same_code in omega (arith, d)
  | there n ↦ elim n [ ]
]

-- an unknown column is at fault at its own place
column_at_fault : fault (line no_column ∷ []) ≡ Some (At 9 UnknownName)
column_at_fault = refl

-- an unknown set is at fault before its column
set_first : fault (line neither ∷ []) ≡ Some (At 5 UnknownName)
set_first = refl

-- a column of another set is unknown
own_columns : fault (line (at_place (codes "emp") 5 (codes "city") 9) ∷ []) ≡ Some (At 9 UnknownName)
own_columns = refl

-- the source is at fault before the target
source_first : fault (record { source = sources.Column no_column; target = at_place (codes "persons") 20 (codes "name") 28 } ∷ []) ≡ Some (At 9 UnknownName)
source_first = refl

target_then : fault (record { source = sources.Column name; target = at_place (codes "persons") 20 (codes "name") 28 } ∷ []) ≡ Some (At 20 UnknownName)
target_then = refl

-- an unknown conversion is at fault before its arguments
unknown_conversion : fault (call (codes "join") (no_set ∷ []) ∷ []) ≡ Some (At 2 UnknownName)
unknown_conversion = refl

-- another number of arguments is at fault at the conversion's word, even where the argument is unknown
width_first : fault (call (codes "pair") (no_set ∷ []) ∷ []) ≡ Some (At 2 Width)
width_first = refl

-- then its arguments from left to right
arguments_then : fault (call (codes "pair") (name ∷ no_column ∷ []) ∷ []) ≡ Some (At 9 UnknownName)
arguments_then = refl

first_argument : fault (call (codes "pair") (no_column ∷ no_set ∷ []) ∷ []) ≡ Some (At 9 UnknownName)
first_argument = refl

-- a literal has no fault
literal : fault (record { source = sources.Literal (codes "x"); target = person_name } ∷ []) ≡ None
literal = refl

-- the first line's fault is the lines' fault
first_line : fault (line no_column ∷ line no_set ∷ []) ≡ Some (At 9 UnknownName)
first_line = refl

-- ---- conditions

-- two row tests
abbrev row_tests : List RowTest
row_tests = record { name = codes "filled"; code = 4 } ∷ record { name = codes "numeric"; code = 7 } ∷ []

abbrev condition : PlaceText → Text → OnlyText
condition p test = record { place = p; test = test; test_place = 14 }

abbrev conditions_at_fault : List OnlyText → Option TextFault
conditions_at_fault os = conditions_fault employees row_tests os

-- names that are there, by their numbers and codes
conditions_read : conditions_at_fault (condition name (codes "numeric") ∷ condition name (codes "filled") ∷ []) ≡ None
conditions_read = refl

conditions_numbers : conditions_of employees row_tests (condition name (codes "numeric") ∷ []) ≡ record { place = record { table = 1; column = 0 }; code = 7 } ∷ []
conditions_numbers = refl

-- of a condition first its set is at fault, then its column, then its test
condition_set_first : conditions_at_fault (condition neither (codes "full") ∷ []) ≡ Some (At 5 UnknownName)
condition_set_first = refl

condition_column_then : conditions_at_fault (condition no_column (codes "full") ∷ []) ≡ Some (At 9 UnknownName)
condition_column_then = refl

condition_test_last : conditions_at_fault (condition name (codes "full") ∷ []) ≡ Some (At 14 UnknownName)
condition_test_last = refl

-- the first condition's fault is the conditions' fault, and conditions keep their order
first_condition : conditions_at_fault (condition no_column (codes "filled") ∷ condition no_set (codes "filled") ∷ []) ≡ Some (At 9 UnknownName)
first_condition = refl

conditions_in_order :
    conditions_of employees row_tests (condition name (codes "filled") ∷ condition city (codes "numeric") ∷ [])
    ≡ record { place = place_of 1 0; code = 4 } ∷ record { place = place_of 0 0; code = 7 } ∷ []
conditions_in_order = refl

-- no row test has this code
no_test : ¬ ConditionIsListed row_tests (record { place = place_of 0 0; code = 5 })
no_test (here e) = omega (arith, e)
no_test (there (here e)) = omega (arith, e)
no_test (there (there m)) = elim m [ ]
