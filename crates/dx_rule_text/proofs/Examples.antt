-- Worked values of printed rules.
use Rattle.std.proofs.Common.{◌≡◌, ◌<◌, ℕ, [], ◌∷◌, refl, false, arith}
use Rattle.std.specs.Prelude.{codes}
use Rattle.std.specs.Fmt.{digits}
use Rattle.dx_base.specs.Members.{◌∈◌, here, there}
use Rattle.dx_model.specs.declared.rules.Cell.TheVariants.{Var, Ex, Lit}
use Rattle.dx_model.specs.declared.rules.Rule.{Rule}
use Rattle.dx_schema.specs.Forest.{Forest, none, set, bare_set}
use Rattle.dx_funcs.specs.Shipped.{shipped_conversions}
use Rattle.dx_rule_text.specs.Printed.{rule_text, rules_text, AtomsWithin, AllListed}

-- employees and their departments
abbrev source : Forest
source =
    set (record { name = codes "emp"; columns = codes "name" ∷ codes "dept" ∷ []; keys = []; deps = []; refs = record { columns = codes "dept" ∷ []; set = codes "dept"; referred = codes "dname" ∷ []; optional = false } ∷ [] }) none
    (set (bare_set (codes "dept") (codes "dname" ∷ [])) none none)

-- units, and the staff of each
abbrev target : Forest
target = set (bare_set (codes "unit") (codes "uname" ∷ [])) (set (bare_set (codes "staff") (codes "sname" ∷ [])) none none) none

-- persons
abbrev persons : Forest
persons = set (bare_set (codes "person") (codes "name" ∷ codes "town" ∷ [])) none none

-- an existential variable
with_existential :
    rule_text source persons shipped_conversions (record {
      premise = record { table = 0; cells = Var 0 ∷ [] } ∷ [];
      derived = [];
      conclusion = record { table = 0; cells = Var 0 ∷ Ex 0 ∷ [] } ∷ [];
    }) ≡ codes "rule emp(x0) -> person(x0, y0);"
unfolding digits
with_existential = refl

-- two atoms and a derived variable, which has the number after the premise's variables
with_derived :
    rule_text source persons shipped_conversions (record {
      premise = record { table = 0; cells = Var 0 ∷ Var 1 ∷ [] } ∷ record { table = 1; cells = Var 1 ∷ [] } ∷ [];
      derived = record { code = 2; args = 0 ∷ 1 ∷ [] } ∷ [];
      conclusion = record { table = 0; cells = Var 2 ∷ [] } ∷ [];
    }) ≡ codes "rule emp(x0, x1), dept(x1) where x2 = pair(x0, x1) -> person(x2);"
unfolding digits
with_derived = refl

-- two derived variables
with_two_derived :
    rule_text source persons shipped_conversions (record {
      premise = record { table = 1; cells = Var 7 ∷ [] } ∷ [];
      derived = record { code = 0; args = 7 ∷ [] } ∷ record { code = 1; args = 7 ∷ [] } ∷ [];
      conclusion = record { table = 0; cells = Var 8 ∷ Var 9 ∷ [] } ∷ [];
    }) ≡ codes "rule dept(x7) where x8 = trim(x7), x9 = digits(x7) -> person(x8, x9);"
unfolding digits
with_two_derived = refl

with_literal :
    rule_text source persons shipped_conversions (record {
      premise = record { table = 0; cells = Var 0 ∷ [] } ∷ [];
      derived = [];
      conclusion = record { table = 0; cells = Var 0 ∷ Lit (codes "none") ∷ [] } ∷ [];
    }) ≡ codes "rule emp(x0) -> person(x0, \"none\");"
unfolding digits
with_literal = refl

-- a quotation mark and a backslash
with_escapes :
    rule_text source persons shipped_conversions (record {
      premise = record { table = 0; cells = Var 0 ∷ [] } ∷ [];
      derived = [];
      conclusion = record { table = 0; cells = Lit (codes "a\"b\\") ∷ [] } ∷ [];
    }) ≡ codes "rule emp(x0) -> person(\"a\\\"b\\\\\");"
unfolding digits
with_escapes = refl

-- the staff of a department is in its unit, and each department has a unit
abbrev staff_in_units : Rule
staff_in_units = record {
  premise = record { table = 0; cells = Var 0 ∷ Var 1 ∷ [] } ∷ record { table = 1; cells = Var 1 ∷ [] } ∷ [];
  derived = [];
  conclusion = record { table = 1; cells = Ex 0 ∷ Var 0 ∷ [] } ∷ record { table = 0; cells = Ex 0 ∷ Var 1 ∷ [] } ∷ [];
}

abbrev units : Rule
units = record { premise = record { table = 1; cells = Var 0 ∷ [] } ∷ []; derived = []; conclusion = record { table = 0; cells = Ex 0 ∷ Var 0 ∷ [] } ∷ [] }

two_rules :
    rules_text source target shipped_conversions (staff_in_units ∷ units ∷ [])
    ≡ codes "rule emp(x0, x1), dept(x1) -> staff(y0, x0), unit(y0, x1);\nrule dept(x0) -> unit(y0, x0);\n"
unfolding digits
two_rules = refl

no_rules : rules_text source target shipped_conversions [] ≡ []
no_rules = refl

-- ---- what can be printed

-- there is no table 1 of one set
no_table_behind : ¬ AtomsWithin persons (record { table = 1; cells = [] } ∷ [])
no_table_behind h = let b : 1 < 1 = h (record { table = 1; cells = [] }) (here refl) in omega (arith, b)

-- and no shipped conversion with code 3
no_conversion_behind : ¬ AllListed shipped_conversions (record { code = 3; args = [] } ∷ [])
no_conversion_behind h = none_is_three (h (record { code = 3; args = [] }) (here refl)) where
  none_is_three : ¬ (◌∈◌ {X = ℕ} 3 (0 ∷ 1 ∷ 2 ∷ []))
  none_is_three (here e) = omega (arith, e)
  none_is_three (there (here e)) = omega (arith, e)
  none_is_three (there (there (here e))) = omega (arith, e)
  none_is_three (there (there (there m))) = elim m [ ]
