-- What the laws of printed rules ask for is needed: rules that are printed and not read as they were.
use Rattle.std.proofs.Common.{◌≡◌, ℕ, List, [], ◌∷◌, Some, codes, refl}
use Rattle.std.specs.Fmt.{digits}
use Rattle.dx_model.specs.declared.rules.Cell.{Cell}
use Rattle.dx_model.specs.declared.rules.Cell.TheVariants.{Var, Ex, Lit}
use Rattle.dx_model.specs.declared.rules.Derived.{Derived}
use Rattle.dx_model.specs.declared.rules.Rule.{Rule}
use Rattle.dx_schema.specs.Forest.{Forest, none, set, bare_set}
use Rattle.dx_tokens.specs.declared.tokenizer.TokenKind.TheVariants.{Str}
use Rattle.dx_tokens.specs.declared.faults.TextKind.TheVariants.{Character}
use Rattle.dx_tokens.specs.Tokens.{wide_at, item_at, string_from, piece_at}
use Rattle.dx_tokens.specs.Scan.{scan_from, scan_of}
use Rattle.dx_schema_text.specs.declared.texts.CellText.{CellText}
use Rattle.dx_schema_text.specs.declared.texts.CellText.TheVariants.{Name}
use Rattle.dx_schema_text.specs.declared.texts.RuleText.{RuleText}
use Rattle.dx_funcs.specs.declared.conversion.Conversion.{Conversion}
use Rattle.dx_rule_text.specs.Printed.{rule_text}
use Rattle.dx_base.specs.Texts.{Text}
use Rattle.dx_tgd_text.specs.Reading.{rule_of_text}

-- employees with a name and a place, persons with a name and a telephone
abbrev employees : Forest
employees = set (bare_set (codes "emp") (codes "name" ∷ codes "place" ∷ [])) none none

abbrev persons : Forest
persons = set (bare_set (codes "person") (codes "name" ∷ codes "phone" ∷ [])) none none

-- employees twice, which is no schema
abbrev twice : Forest
twice = set (bare_set (codes "emp") (codes "name" ∷ codes "place" ∷ [])) none employees

-- two conversions of one name, which is no offer
abbrev doubled : List Conversion
doubled = record { name = codes "trim"; code = 0; arity = 1 } ∷ record { name = codes "trim"; code = 1; arity = 1 } ∷ []

abbrev rule : ℕ → List Cell → List Derived → List Cell → Rule
rule table premise ds conclusion = record { premise = record { table = table; cells = premise } ∷ []; derived = ds; conclusion = record { table = 0; cells = conclusion } ∷ [] }

abbrev named : Text → ℕ → CellText
named name place = Name name place

-- what `rule emp(a, b) -> person(..);` says
abbrev said : Text → Text → List CellText → RuleText
said a b conclusion = record {
  premise = record { set = codes "emp"; place = 5; cells = named a 9 ∷ named b 13 ∷ [] } ∷ [];
  derived = [];
  conclusion = record { set = codes "person"; place = 20; cells = conclusion } ∷ [];
}

-- a literal with a byte below 32: the byte is printed as it is, and can't stand in a string
with_line_feed : (scan_of (rule_text employees persons [] (rule 0 (Var 0 ∷ Var 1 ∷ []) [] (Var 0 ∷ Lit (10 ∷ []) ∷ [])))).stop ≡ Some (record { place = 32; kind = Character; begun = Some (record { place = 31; kind = Str; text = [] }) })
unfolding digits scan_from piece_at string_from item_at wide_at
with_line_feed = refl

-- variables that are not numbered by first appearance are read by first appearance
other_order : rule_text employees persons [] (rule 0 (Var 1 ∷ Var 0 ∷ []) [] (Var 0 ∷ Ex 0 ∷ [])) ≡ codes "rule emp(x1, x0) -> person(x0, y0);"
unfolding digits
other_order = refl

read_in_order :
    rule_of_text employees persons [] (said (codes "x1") (codes "x0") (named (codes "x0") 27 ∷ named (codes "y0") 31 ∷ []))
    ≡ rule 0 (Var 0 ∷ Var 1 ∷ []) [] (Var 1 ∷ Ex 0 ∷ [])
read_in_order = refl

-- the second of two tables of one name is read as the first
second_table : rule_text twice persons [] (rule 1 (Var 0 ∷ Var 1 ∷ []) [] (Var 0 ∷ Ex 0 ∷ [])) ≡ codes "rule emp(x0, x1) -> person(x0, y0);"
unfolding digits
second_table = refl

read_as_first :
    rule_of_text twice persons [] (said (codes "x0") (codes "x1") (named (codes "x0") 27 ∷ named (codes "y0") 31 ∷ []))
    ≡ rule 0 (Var 0 ∷ Var 1 ∷ []) [] (Var 0 ∷ Ex 0 ∷ [])
read_as_first = refl

-- and so is the second of two conversions of one name
second_conversion : rule_text employees persons doubled (rule 0 (Var 0 ∷ Var 1 ∷ []) (record { code = 1; args = 0 ∷ [] } ∷ []) (Var 2 ∷ Ex 0 ∷ [])) ≡ codes "rule emp(x0, x1) where x2 = trim(x0) -> person(x2, y0);"
unfolding digits
second_conversion = refl

read_as_first_conversion :
    rule_of_text employees persons doubled (record {
      premise = (said (codes "x0") (codes "x1") []).premise;
      derived = record { name = codes "x2"; place = 23; call = codes "trim"; call_place = 28; args = named (codes "x0") 33 ∷ [] } ∷ [];
      conclusion = record { set = codes "person"; place = 40; cells = named (codes "x2") 47 ∷ named (codes "y0") 51 ∷ [] } ∷ [];
    })
    ≡ rule 0 (Var 0 ∷ Var 1 ∷ []) (record { code = 0; args = 0 ∷ [] } ∷ []) (Var 2 ∷ Ex 0 ∷ [])
read_as_first_conversion = refl
