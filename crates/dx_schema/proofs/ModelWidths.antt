-- The widths of a schema's tables, by the tables of the model.
use Rattle.std.proofs.Common.{◌≡◌, List, [], ◌∷◌, length, refl, ap}
use Rattle.std.specs.Prelude.{map}
use Rattle.dx_model.specs.Tables.{Table}
use Rattle.dx_schema.specs.Forest.{Forest}
use Rattle.dx_schema.specs.Tables.{TableOf, as_numbers, model_tables, schema_widths, tables_of}

table_widths : (ts : List TableOf) → map (λ (t : Table). t.width) (map as_numbers ts) ≡ map (λ (t : TableOf). length t.columns) ts
table_widths [] = refl
table_widths (t ∷ ts) = ap (λ ws. length t.columns ∷ ws) (table_widths ts)

pub model_widths : (f : Forest) → map (λ (t : Table). t.width) (model_tables f) ≡ schema_widths f
model_widths f = table_widths (tables_of f)
