-- What links and rules of a schema have to be, in a text of any version: links to nothing, more refs than a limit, and the first of
-- two circles.
use Rattle.std.proofs.Common.{ℕ, List, [], ◌∷◌, false, arith, refl}
use Rattle.dx_base.specs.Members.{here}
use Rattle.dx_base.specs.Texts.{Text}
use Rattle.dx_model.specs.declared.tables.Link.{Link}
use Rattle.dx_model.specs.Tables.{Table}
use Rattle.dx_schema.specs.Bounds.{RulesBelow}
use Rattle.dx_schema.specs.Forest.{Forest, none, set}
use Rattle.dx_schema.specs.Links.{IsFirstCycle, LinkFits, LinksFit, directly}
use Rattle.dx_schema.specs.Tables.{model_tables}

abbrev a : Text
a = 97 ∷ []

abbrev b : Text
b = 98 ∷ []

-- a table of two columns with these links
abbrev linked : List Link → Table
linked links = record { width = 2; determinations = []; links = links; optional = [] }

abbrev from_to : List ℕ → ℕ → List ℕ → Link
from_to from table to = record { from = from; table = table; to = to }

-- a link leads to a table that is there, even if it wants no column of it
to_no_table : ¬ (LinksFit (linked (from_to [] 1 [] ∷ []) ∷ []))
to_no_table fit = absurd (omega (arith, link.table))
  where
    link : LinkFits (linked (from_to [] 1 [] ∷ []) ∷ []) 2 (from_to [] 1 [])
    link = fit (linked (from_to [] 1 [] ∷ [])) (here refl) (from_to [] 1 []) (here refl)

-- from columns that are there, to columns that are there
from_no_column : ¬ (LinksFit (linked (from_to (2 ∷ []) 0 (0 ∷ []) ∷ []) ∷ []))
from_no_column fit = absurd (omega (arith, link.from 2 (here refl)))
  where
    link : LinkFits (linked (from_to (2 ∷ []) 0 (0 ∷ []) ∷ []) ∷ []) 2 (from_to (2 ∷ []) 0 (0 ∷ []))
    link = fit (linked (from_to (2 ∷ []) 0 (0 ∷ []) ∷ [])) (here refl) (from_to (2 ∷ []) 0 (0 ∷ [])) (here refl)

to_no_column : ¬ (LinksFit (linked (from_to (0 ∷ []) 0 (2 ∷ []) ∷ []) ∷ []))
to_no_column fit = absurd (omega (arith, link.to 2 (here refl)))
  where
    link : LinkFits (linked (from_to (0 ∷ []) 0 (2 ∷ []) ∷ []) ∷ []) 2 (from_to (0 ∷ []) 0 (2 ∷ []))
    link = fit (linked (from_to (0 ∷ []) 0 (2 ∷ []) ∷ [])) (here refl) (from_to (0 ∷ []) 0 (2 ∷ [])) (here refl)

-- refs count among the rules of a schema
too_many_refs : ¬ (RulesBelow 1 (set (record {
  name = a;
  columns = a ∷ [];
  keys = [];
  deps = [];
  refs = record { columns = a ∷ []; set = a; referred = a ∷ []; optional = false } ∷ [];
}) none none))
too_many_refs few = absurd (omega (arith, few.1))

-- of two sets that refer to themselves the second is not the first
abbrev two_circles : Forest
two_circles =
    set (record {
      name = a;
      columns = a ∷ [];
      keys = [];
      deps = [];
      refs = record { columns = a ∷ []; set = a; referred = a ∷ []; optional = false } ∷ [];
    }) none
    (set (record {
      name = b;
      columns = a ∷ [];
      keys = [];
      deps = [];
      refs = record { columns = a ∷ []; set = b; referred = a ∷ []; optional = false } ∷ [];
    }) none none)

not_the_second : ¬ IsFirstCycle (model_tables two_circles) 1
not_the_second c = c.first 0 (omega arith) (directly (from_to (0 ∷ []) 0 (0 ∷ [])) (here refl))
