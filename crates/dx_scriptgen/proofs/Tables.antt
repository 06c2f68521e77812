-- The tables of a schema by their names, and rules over them.
use Rattle.std.proofs.Common.{◌≡◌, ℕ, ◌<◌, sym, length, get_or, arith}
use Rattle.std.proofs.lemmas.List.{get_or-map, length-map}
use Rattle.dx_model.specs.declared.rules.Rule.{Rule}
use Rattle.dx_model.specs.Rules.{exported, cells_of}
use Rattle.dx_model.specs.Fitting.{IsRule}
use Rattle.dx_model.proofs.Cells.{variables_few}
use Rattle.dx_schema.specs.Forest.{Forest}
use Rattle.dx_schema.specs.Tables.{schema_table, tables_of, no_table}
use Rattle.dx_schema.specs.Names.{TableNames, table_names_of, names_of_table}

pub named_item : (f : Forest) (t : ℕ) (d : TableNames) → t < length (tables_of f) → names_of_table (schema_table f t) ≡ get_or (table_names_of f) t d
named_item f t d h = sym (get_or-map names_of_table (tables_of f) t no_table d h)

pub named_within : (f : Forest) (t : ℕ) → t < length (tables_of f) → t < length (table_names_of f)
named_within f t h = rw (length-map (tables_of f) names_of_table) h

-- ---- few variables

-- a rule exports few variables
pub exported_few : (d : Rule) → IsRule d → length (exported d) < 4294967296
exported_few d r = let a = variables_few (cells_of d.conclusion) in let b = r.few_cells in omega (arith, a, b)
