-- Units with their staff, employees that refer to departments, and rooms with a key, a dependency and an optional ref: their tables.
use Rattle.std.proofs.Common.{false, true, Some, None, ◌≡◌, ℕ, List, [], ◌∷◌, refl, arith}
use Rattle.dx_schema.specs.Forest.{Forest, bare_set, none, set}
use Rattle.dx_model.specs.declared.tables.Link.{Link}
use Rattle.dx_model.specs.Tables.{key_of, Table as Numbers}
use Rattle.dx_schema.specs.Tables.{AreColumns, IsDep, model_tables, no_table, tables_of}
use Rattle.dx_schema.specs.Inner.{PlacesAscend}
use Rattle.dx_schema.specs.Names.{HaveDistinctNames}
use Rattle.dx_schema.specs.Links.{LinkFits, LinksFit}
use Rattle.dx_schema.specs.Bounds.{RulesBelow}
use Rattle.dx_base.specs.Texts.{Text}
use Rattle.dx_base.specs.Members.{here, there}

abbrev a : Text
a = 97 ∷ []

abbrev b : Text
b = 98 ∷ []

abbrev units : Forest
units = set (record { name = a; columns = b ∷ []; keys = record { columns = b ∷ [] } ∷ []; deps = []; refs = [] }) (set (record { name = b; columns = a ∷ []; keys = record { columns = a ∷ [] } ∷ []; deps = []; refs = [] }) none none) none

abbrev id : Text
id = 35 ∷ 105 ∷ 100 ∷ []

abbrev up : Text
up = 35 ∷ 117 ∷ 112 ∷ []

tables_of-units :
    tables_of units ≡ record { name = a; columns = id ∷ b ∷ []; keys = record { columns = 0 ∷ [] } ∷ record { columns = 1 ∷ [] } ∷ []; deps = []; links = []; optional = []; parent = None; inner = 1 ∷ [] }
    ∷ record { name = b; columns = up ∷ a ∷ []; keys = record { columns = 0 ∷ 1 ∷ [] } ∷ []; deps = []; links = record { from = 0 ∷ []; table = 0; to = 0 ∷ [] } ∷ []; optional = []; parent = Some 0; inner = [] } ∷ []
tables_of-units = refl

abbrev employees : Forest
employees =
    set (record { name = a; columns = a ∷ b ∷ []; keys = []; deps = []; refs = record { columns = b ∷ []; set = b; referred = up ∷ []; optional = false } ∷ [] }) none
    (set (record { name = b; columns = up ∷ []; keys = []; deps = []; refs = [] }) none none)

tables_of-employees :
    tables_of employees ≡ record { name = a; columns = a ∷ b ∷ []; keys = []; deps = []; links = record { from = 1 ∷ []; table = 1; to = 0 ∷ [] } ∷ []; optional = []; parent = None; inner = [] }
    ∷ record { name = b; columns = up ∷ []; keys = []; deps = []; links = []; optional = []; parent = None; inner = [] } ∷ []
tables_of-employees = refl

abbrev c : Text
c = 99 ∷ []

-- houses of an a with their rooms; of a room its c is a key in its house, and its a decides its c there; each room may refer to a city
abbrev houses : Forest
houses =
    set (bare_set a (b ∷ []))
    (set (record {
      name = b;
      columns = a ∷ c ∷ [];
      keys = record { columns = c ∷ [] } ∷ [];
      deps = record { columns = a ∷ []; decides = c ∷ [] } ∷ [];
      refs = record { columns = c ∷ []; set = c; referred = a ∷ []; optional = true } ∷ [];
    }) none none)
    (set (bare_set c (a ∷ [])) none none)

tables_of-houses :
    tables_of houses ≡ record { name = a; columns = id ∷ b ∷ []; keys = record { columns = 0 ∷ [] } ∷ []; deps = []; links = []; optional = []; parent = None; inner = 1 ∷ [] }
    ∷ record {
      name = b;
      columns = up ∷ a ∷ c ∷ [];
      keys = record { columns = 0 ∷ 2 ∷ [] } ∷ [];
      deps = record { columns = 0 ∷ 1 ∷ []; decides = 2 ∷ [] } ∷ [];
      links = record { from = 0 ∷ []; table = 0; to = 0 ∷ [] } ∷ [];
      optional = record { from = 2 ∷ []; table = 2; to = 0 ∷ [] } ∷ [];
      parent = Some 0;
      inner = [];
    }
    ∷ record { name = c; columns = a ∷ []; keys = []; deps = []; links = []; optional = []; parent = None; inner = [] } ∷ []
tables_of-houses = refl

-- as numbers: a key determines all columns, a dependency those that it decides
model_tables-houses :
    model_tables houses ≡ record { width = 2; determinations = key_of 2 (0 ∷ []) ∷ []; links = []; optional = [] }
    ∷ record {
      width = 3;
      determinations = record { left = 0 ∷ 2 ∷ []; right = 0 ∷ 1 ∷ 2 ∷ [] } ∷ record { left = 0 ∷ 1 ∷ []; right = 2 ∷ [] } ∷ [];
      links = record { from = 0 ∷ []; table = 0; to = 0 ∷ [] } ∷ [];
      optional = record { from = 2 ∷ []; table = 2; to = 0 ∷ [] } ∷ [];
    }
    ∷ record { width = 1; determinations = []; links = []; optional = [] } ∷ []
model_tables-houses = refl

abbrev d : Text
d = 100 ∷ []

-- three levels: the middle one has both added columns, and its link to the level above comes before its ref
abbrev streets : Forest
streets =
    set (bare_set a (a ∷ []))
    (set (record {
      name = b;
      columns = b ∷ [];
      keys = record { columns = b ∷ [] } ∷ [];
      deps = [];
      refs = record { columns = b ∷ []; set = d; referred = c ∷ []; optional = false } ∷ [];
    })
    (set (bare_set c (c ∷ [])) none none) none)
    (set (bare_set d (d ∷ c ∷ [])) none none)

tables_of-streets :
    tables_of streets ≡ record {
      name = a;
      columns = id ∷ a ∷ [];
      keys = record { columns = 0 ∷ [] } ∷ [];
      deps = [];
      links = [];
      optional = [];
      parent = None;
      inner = 1 ∷ [];
    }
    ∷ record {
      name = b;
      columns = id ∷ up ∷ b ∷ [];
      keys = record { columns = 0 ∷ [] } ∷ record { columns = 1 ∷ 2 ∷ [] } ∷ [];
      deps = [];
      links = record { from = 1 ∷ []; table = 0; to = 0 ∷ [] } ∷ record { from = 2 ∷ []; table = 3; to = 1 ∷ [] } ∷ [];
      optional = [];
      parent = Some 0;
      inner = 2 ∷ [];
    }
    ∷ record {
      name = c;
      columns = up ∷ c ∷ [];
      keys = [];
      deps = [];
      links = record { from = 0 ∷ []; table = 1; to = 0 ∷ [] } ∷ [];
      optional = [];
      parent = Some 1;
      inner = [];
    }
    ∷ record {
      name = d;
      columns = d ∷ c ∷ [];
      keys = [];
      deps = [];
      links = [];
      optional = [];
      parent = None;
      inner = [];
    } ∷ []
tables_of-streets = refl

-- two inner sets, the first of which has one
abbrev trees : Forest
trees =
    set (bare_set a (a ∷ []))
    (set (bare_set b (b ∷ [])) (set (bare_set c (c ∷ [])) none none) (set (bare_set d (d ∷ [])) none none)) none

tables_of-trees :
    tables_of trees ≡ record {
      name = a;
      columns = id ∷ a ∷ [];
      keys = record { columns = 0 ∷ [] } ∷ [];
      deps = [];
      links = [];
      optional = [];
      parent = None;
      inner = 1 ∷ 3 ∷ [];
    }
    ∷ record {
      name = b;
      columns = id ∷ up ∷ b ∷ [];
      keys = record { columns = 0 ∷ [] } ∷ [];
      deps = [];
      links = record { from = 1 ∷ []; table = 0; to = 0 ∷ [] } ∷ [];
      optional = [];
      parent = Some 0;
      inner = 2 ∷ [];
    }
    ∷ record {
      name = c;
      columns = up ∷ c ∷ [];
      keys = [];
      deps = [];
      links = record { from = 0 ∷ []; table = 1; to = 0 ∷ [] } ∷ [];
      optional = [];
      parent = Some 1;
      inner = [];
    }
    ∷ record {
      name = d;
      columns = up ∷ d ∷ [];
      keys = [];
      deps = [];
      links = record { from = 0 ∷ []; table = 0; to = 0 ∷ [] } ∷ [];
      optional = [];
      parent = Some 0;
      inner = [];
    } ∷ []
tables_of-trees = refl

-- ---- what does not hold of each schema

-- no column stands twice, none is behind the last, and there is one
no_column_twice : ¬ (AreColumns 2 (0 ∷ 0 ∷ []))
no_column_twice columns = columns.distinct.0 (here refl)

no_column_behind : ¬ (AreColumns 2 (0 ∷ 2 ∷ []))
no_column_behind columns = absurd (omega (arith, columns.within 2 (there (here refl))))

some_column : ¬ (AreColumns 2 [])
some_column columns = absurd (omega (arith, columns.some))

-- so it is on both sides of a dependency
nothing_decided : ¬ (IsDep 2 (record { columns = 0 ∷ []; decides = [] }))
nothing_decided dep = absurd (omega (arith, dep.decides.some))

nothing_decides : ¬ (IsDep 2 (record { columns = []; decides = 0 ∷ [] }))
nothing_decides dep = absurd (omega (arith, dep.columns.some))

-- each inner table once
not_ascending : ¬ (PlacesAscend (1 ∷ 1 ∷ []))
not_ascending ascending = absurd (omega (arith, ascending.0 1 (here refl)))

-- tables have names of their own, and so have the columns of one table
one_name : ¬ (HaveDistinctNames (record { name = a; columns = [] } ∷ record { name = a; columns = [] } ∷ []))
one_name names = names.apart.0 (here refl)

one_column_name : ¬ (HaveDistinctNames (record { name = a; columns = b ∷ c ∷ b ∷ [] } ∷ []))
one_column_name names =
    (names.columns_apart (record { name = a; columns = b ∷ c ∷ b ∷ [] }) (here refl)).0 (there (here refl))

-- links lead to tables that are there, from columns to as many, none twice; optional ones too
abbrev linked : List Link → List Link → Numbers
linked links optional = record { width = 2; determinations = []; links = links; optional = optional }

abbrev from_to : List ℕ → ℕ → List ℕ → Link
from_to from table to = record { from = from; table = table; to = to }

to_no_table : ¬ (LinksFit (linked [] (from_to (0 ∷ []) 1 (0 ∷ []) ∷ []) ∷ []))
to_no_table fit = absurd (omega (arith, link.table))
  where
    link : LinkFits (linked [] (from_to (0 ∷ []) 1 (0 ∷ []) ∷ []) ∷ []) 2 (from_to (0 ∷ []) 1 (0 ∷ []))
    link = fit (linked [] (from_to (0 ∷ []) 1 (0 ∷ []) ∷ [])) (here refl) (from_to (0 ∷ []) 1 (0 ∷ [])) (here refl)

-- even if no column of it is wanted
to_no_table_alone : ¬ (LinksFit (linked (from_to [] 1 [] ∷ []) [] ∷ []))
to_no_table_alone fit = absurd (omega (arith, link.table))
  where
    link : LinkFits (linked (from_to [] 1 [] ∷ []) [] ∷ []) 2 (from_to [] 1 [])
    link = fit (linked (from_to [] 1 [] ∷ []) []) (here refl) (from_to [] 1 []) (here refl)

from_no_column : ¬ (LinksFit (linked (from_to (2 ∷ []) 0 (0 ∷ []) ∷ []) [] ∷ []))
from_no_column fit = absurd (omega (arith, link.from 2 (here refl)))
  where
    link : LinkFits (linked (from_to (2 ∷ []) 0 (0 ∷ []) ∷ []) [] ∷ []) 2 (from_to (2 ∷ []) 0 (0 ∷ []))
    link =
        fit (linked (from_to (2 ∷ []) 0 (0 ∷ []) ∷ []) []) (here refl) (from_to (2 ∷ []) 0 (0 ∷ [])) (here refl)

to_no_column : ¬ (LinksFit (linked (from_to (0 ∷ []) 0 (2 ∷ []) ∷ []) [] ∷ []))
to_no_column fit = absurd (omega (arith, link.to 2 (here refl)))
  where
    link : LinkFits (linked (from_to (0 ∷ []) 0 (2 ∷ []) ∷ []) [] ∷ []) 2 (from_to (0 ∷ []) 0 (2 ∷ []))
    link =
        fit (linked (from_to (0 ∷ []) 0 (2 ∷ []) ∷ []) []) (here refl) (from_to (0 ∷ []) 0 (2 ∷ [])) (here refl)

abbrev narrowing : Link
narrowing = from_to (0 ∷ 1 ∷ []) 0 (0 ∷ [])

to_fewer : ¬ (LinksFit (linked (narrowing ∷ []) [] ∷ []))
to_fewer fit = absurd (omega (arith, link.same_length))
  where
    link : LinkFits (linked (narrowing ∷ []) [] ∷ []) 2 narrowing
    link = fit (linked (narrowing ∷ []) []) (here refl) narrowing (here refl)

abbrev twice : Link
twice = from_to (0 ∷ 1 ∷ []) 0 (1 ∷ 1 ∷ [])

to_one_twice : ¬ (LinksFit (linked (twice ∷ []) [] ∷ []))
to_one_twice fit = link.to_distinct.0 (here refl)
  where
    link : LinkFits (linked (twice ∷ []) [] ∷ []) 2 twice
    link = fit (linked (twice ∷ []) []) (here refl) twice (here refl)

-- inner sets are bounded too, and dependencies count with the keys
too_many_inside : ¬ (RulesBelow 2
    (set (bare_set a (a ∷ []))
    (set (record {
      name = b;
      columns = b ∷ [];
      keys = record { columns = b ∷ [] } ∷ [];
      deps = record { columns = b ∷ []; decides = b ∷ [] } ∷ [];
      refs = [];
    }) none none) none))
too_many_inside few = absurd (omega (arith, few.2.0))

-- and so are refs
too_many_refs : ¬ (RulesBelow 1 (set (record {
  name = a;
  columns = a ∷ [];
  keys = [];
  deps = [];
  refs = record { columns = a ∷ []; set = a; referred = a ∷ []; optional = false } ∷ [];
}) none none))
too_many_refs few = absurd (omega (arith, few.1))
