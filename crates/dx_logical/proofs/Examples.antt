-- Unfoldings of small schemas, and a subtree.
use Rattle.std.proofs.Common.{◌≡◌, ℕ, Some, None, List, [], ◌∷◌, refl, length, false}
use Rattle.std.specs.Prelude.{map}
use Rattle.dx_model.specs.declared.tables.Link.{Link}
use Rattle.dx_model.specs.Tables.{Table}
use Rattle.dx_schema.specs.Forest.{Forest, none, set, bare_set}
use Rattle.dx_schema.specs.Tables.{model_tables}
use Rattle.dx_base.specs.Texts.{Text}
use Rattle.dx_logical.specs.declared.relation.Occurrence.{Occurrence}
use Rattle.dx_logical.specs.declared.relation.Relation.{Relation}
use Rattle.dx_logical.specs.Unfolding.{variants_of, unfolding_of, sub}
use Rattle.dx_logical.specs.Laws.{unfolding_variables}

-- tables with their variables
abbrev atoms : List Occurrence → List (ℕ × List ℕ)
atoms os = map (λ (o : Occurrence). (o.table, o.variables)) os

abbrev unfolded_from : List Table → ℕ → List (ℕ × List ℕ)
unfolded_from schema t = atoms (unfolding_of schema t).occurrences

-- ---- schemas of sets

abbrev a : Text
a = 97 ∷ []

abbrev b : Text
b = 98 ∷ []

abbrev c : Text
c = 99 ∷ []

-- emp(a, b) with a ref from b to a of dept(a)
abbrev employees : Forest
employees =
    set (record { name = a; columns = a ∷ b ∷ []; keys = []; deps = []; refs = record { columns = b ∷ []; set = b; referred = a ∷ []; optional = false } ∷ [] }) none
    (set (bare_set b (a ∷ [])) none none)

-- emp(0, 1), dept(1)
employees-unfolded : unfolded_from (model_tables employees) 0 ≡ (0, 0 ∷ 1 ∷ []) ∷ (1, 1 ∷ []) ∷ []
employees-unfolded = refl

-- the occurrences in full
employees-occurrences :
    (unfolding_of (model_tables employees) 0).occurrences ≡ record { table = 0; variables = 0 ∷ 1 ∷ []; parent = None; link = 0 } ∷ record { table = 1; variables = 1 ∷ []; parent = Some 0; link = 0 } ∷ []
employees-occurrences = refl

employees-variables : (unfolding_of (model_tables employees) 0).variables ≡ 2
employees-variables = refl

departments-unfolded : unfolded_from (model_tables employees) 1 ≡ (1, 0 ∷ []) ∷ []
departments-unfolded = refl

-- unit(#id, b) with the inner set staff(#up, a)
abbrev units : Forest
units = set (bare_set a (b ∷ [])) (set (bare_set b (a ∷ [])) none none) none

-- staff(0, 1), unit(0, 2)
staff-unfolded : unfolded_from (model_tables units) 1 ≡ (1, 0 ∷ 1 ∷ []) ∷ (0, 0 ∷ 2 ∷ []) ∷ []
staff-unfolded = refl

-- trip(a, b, c) with refs from b and from c to a of city(a, b)
abbrev trips : Forest
trips =
    set (record { name = a; columns = a ∷ b ∷ c ∷ []; keys = []; deps = []; refs = record { columns = b ∷ []; set = b; referred = a ∷ []; optional = false } ∷ record { columns = c ∷ []; set = b; referred = a ∷ []; optional = false } ∷ [] }) none
    (set (bare_set b (a ∷ b ∷ [])) none none)

-- trip(0, 1, 2), city(1, 3), city(2, 4)
trips-unfolded : unfolded_from (model_tables trips) 0 ≡ (0, 0 ∷ 1 ∷ 2 ∷ []) ∷ (1, 1 ∷ 3 ∷ []) ∷ (1, 2 ∷ 4 ∷ []) ∷ []
trips-unfolded = refl

trips-second : sub (unfolding_of (model_tables trips) 0).occurrences 2 ≡ record { table = 1; variables = 2 ∷ 4 ∷ []; parent = Some 0; link = 1 } ∷ []
trips-second = refl

-- ---- schemas of tables

abbrev table : ℕ → List Link → Table
table width links = record { width = width; determinations = []; links = links; optional = [] }

abbrev link : ℕ → ℕ → ℕ → Link
link from to_table to = record { from = from ∷ []; table = to_table; to = to ∷ [] }

-- dept(dname, city), emp(eid, name, dname) with a link to dept, phone(eid, num) with a link to emp
abbrev phones : List Table
phones = table 2 [] ∷ table 3 (link 2 0 0 ∷ []) ∷ table 2 (link 0 1 0 ∷ []) ∷ []

-- phone(0, 1), emp(0, 2, 3), dept(3, 4)
phones-unfolded : unfolded_from phones 2 ≡ (2, 0 ∷ 1 ∷ []) ∷ (1, 0 ∷ 2 ∷ 3 ∷ []) ∷ (0, 3 ∷ 4 ∷ []) ∷ []
phones-unfolded = refl

-- of the phone all, of the employee not the phone
phones-whole : atoms (sub (unfolding_of phones 2).occurrences 0) ≡ (2, 0 ∷ 1 ∷ []) ∷ (1, 0 ∷ 2 ∷ 3 ∷ []) ∷ (0, 3 ∷ 4 ∷ []) ∷ []
phones-whole = refl

phones-employee : atoms (sub (unfolding_of phones 2).occurrences 1) ≡ (1, 0 ∷ 2 ∷ 3 ∷ []) ∷ (0, 3 ∷ 4 ∷ []) ∷ []
phones-employee = refl

-- a link of two columns, in another order: the referred columns have the variables of the referring columns
crossed : unfolded_from (table 3 [] ∷ table 3 (record { from = 2 ∷ 0 ∷ []; table = 0; to = 0 ∷ 2 ∷ [] } ∷ []) ∷ []) 1 ≡ (1, 0 ∷ 1 ∷ 2 ∷ []) ∷ (0, 2 ∷ 3 ∷ 0 ∷ []) ∷ []
crossed = refl

-- each table has two links to the next
abbrev twice : ℕ → Table
twice next = table 1 (link 0 next 0 ∷ link 0 next 0 ∷ [])

six : length (unfolding_of (twice 1 ∷ twice 2 ∷ twice 3 ∷ twice 4 ∷ twice 5 ∷ table 1 [] ∷ []) 0).occurrences ≡ 63
six = refl

seven : length (unfolding_of (twice 1 ∷ twice 2 ∷ twice 3 ∷ twice 4 ∷ twice 5 ∷ twice 6 ∷ table 1 [] ∷ []) 0).occurrences ≡ 127
seven = refl

-- the subtree of the first link of six such tables is that of five
five : length (sub (unfolding_of (twice 1 ∷ twice 2 ∷ twice 3 ∷ twice 4 ∷ twice 5 ∷ table 1 [] ∷ []) 0).occurrences 1) ≡ 31
five = refl

-- variables are numbered by first appearance
trips-variables : unfolding_variables (unfolding_of (model_tables trips) 0) ≡ 0 ∷ 1 ∷ 2 ∷ 1 ∷ 3 ∷ 2 ∷ 4 ∷ []
trips-variables = refl

-- ---- optional links

abbrev with_optional : ℕ → List Link → List Link → Table
with_optional width links optional = record { width = width; determinations = []; links = links; optional = optional }

abbrev variants_from : List Table → ℕ → List (List (ℕ × List ℕ))
variants_from schema t = map (λ (r : Relation). atoms r.occurrences) (variants_of schema t)

-- emp(name, dept) with an optional link to dept(dname, city): the employee alone, and with the department
open_department : variants_from (with_optional 2 [] (link 1 1 0 ∷ []) ∷ table 2 [] ∷ []) 0 ≡
    ((0, 0 ∷ 1 ∷ []) ∷ [])
    ∷ ((0, 0 ∷ 1 ∷ []) ∷ (1, 1 ∷ 2 ∷ []) ∷ [])
    ∷ []
open_department = refl

-- two optional links: the first varies slowest, nothing before something
two_open : variants_from (with_optional 2 [] (link 0 1 0 ∷ link 1 2 0 ∷ []) ∷ table 1 [] ∷ table 1 [] ∷ []) 0 ≡
    ((0, 0 ∷ 1 ∷ []) ∷ [])
    ∷ ((0, 0 ∷ 1 ∷ []) ∷ (2, 1 ∷ []) ∷ [])
    ∷ ((0, 0 ∷ 1 ∷ []) ∷ (1, 0 ∷ []) ∷ [])
    ∷ ((0, 0 ∷ 1 ∷ []) ∷ (1, 0 ∷ []) ∷ (2, 1 ∷ []) ∷ [])
    ∷ []
two_open = refl

-- a link to a table that has an optional one: its choices vary slower than those of the optional links after it
behind_a_link : variants_from (with_optional 2 (link 0 1 0 ∷ []) (link 1 2 0 ∷ []) ∷ with_optional 1 [] (link 0 2 0 ∷ []) ∷ table 1 [] ∷ []) 0 ≡
    ((0, 0 ∷ 1 ∷ []) ∷ (1, 0 ∷ []) ∷ [])
    ∷ ((0, 0 ∷ 1 ∷ []) ∷ (1, 0 ∷ []) ∷ (2, 1 ∷ []) ∷ [])
    ∷ ((0, 0 ∷ 1 ∷ []) ∷ (1, 0 ∷ []) ∷ (2, 0 ∷ []) ∷ [])
    ∷ ((0, 0 ∷ 1 ∷ []) ∷ (1, 0 ∷ []) ∷ (2, 0 ∷ []) ∷ (2, 1 ∷ []) ∷ [])
    ∷ []
behind_a_link = refl

-- an optional link has its number after those of the links
numbers_of_links :
    map (λ (r : Relation). map (λ (o : Occurrence). o.link) r.occurrences) (variants_of (with_optional 2 (link 0 1 0 ∷ []) (link 1 1 0 ∷ []) ∷ table 1 [] ∷ []) 0)
    ≡ (0 ∷ 0 ∷ []) ∷ (0 ∷ 0 ∷ 1 ∷ []) ∷ []
numbers_of_links = refl

-- each optional link doubles the list
eight_open : length (variants_of (with_optional 8 [] (link 0 1 0 ∷ link 1 1 0 ∷ link 2 1 0 ∷ link 3 1 0 ∷ link 4 1 0 ∷ link 5 1 0 ∷ link 6 1 0 ∷ link 7 1 0 ∷ []) ∷ table 1 [] ∷ []) 0) ≡ 256
eight_open = refl
