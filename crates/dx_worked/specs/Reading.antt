-- What is read of a source file if a condition leaves out one of its rows.
use Rattle.std.specs.Prelude.{◌≡◌, ◌↔◌, List, [], ◌∷◌, codes}
use Rattle.std.specs.FinMap.{from_entries, get}
use Rattle.dx_base.specs.Entries.{FileMap}
use Rattle.dx_model.specs.declared.values.Value.TheVariants.{Const}
use Rattle.dx_model.specs.Values.{Conversions}
use Rattle.dx_stages.specs.Worlds.{World}
use Rattle.dx_schema.specs.Forest.{Forest, bare_set, none, set}
use Rattle.dx_funcs.specs.declared.conversion.Conversion.{Conversion}
use Rattle.dx_funcs.specs.declared.row_test.RowTest.{RowTest}
use Rattle.dx_funcs.specs.Shipped.{shipped_passes}
use Rattle.dx_instance.specs.Stored.{TableRows}
use Rattle.clio_accept.specs.declared.mapping.Mapping.{Mapping}
use Rattle.clio_steps.specs.Steps.{program, rows_stages}

-- employees with their departments
abbrev pub emps : Forest
emps = set (bare_set (codes "emp") (codes "name" ∷ codes "dept" ∷ [])) none none

-- of which those are wanted that have a name: `only emp.name filled;`
abbrev pub with_names : Mapping
with_names = record {
  source = emps;
  target = none;
  conditions = record { place = record { table = 0; column = 0 }; code = 0 } ∷ [];
  rules = [];
}

-- the file: ann, bob, and one without a name
abbrev pub emp_held : FileMap
emp_held = from_entries ((codes "emp.csv", codes "name,dept\nann,toys\nbob,\n,toys\n") ∷ [])

abbrev pub emp_world : World
emp_world n = get emp_held n

-- ann and bob
abbrev pub named : List TableRows
named =
    record {
      width = 2;
      rows = (Const (codes "ann") ∷ Const (codes "toys") ∷ []) ∷ (Const (codes "bob") ∷ Const [] ∷ []) ∷ [];
    } ∷ []

-- these are read, and nothing else is
abbrev pub NamedAreRead : Type 0
NamedAreRead =
    (list : List Conversion) (tests : List RowTest) (apply : Conversions) (I : List TableRows)
    → (rows_stages (program list tests apply shipped_passes)).passes emp_world with_names (with_names, I) ↔ (I ≡ named)
