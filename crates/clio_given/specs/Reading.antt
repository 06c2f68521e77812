-- What the code has of what was read: rows of the tables, as numbers of symbols.
use Rattle.std.specs.Prelude.{◌≡◌, ℕ, List, map, take, length, Result, Ok, Err}
use Rattle.dx_base.specs.Members.{Each}
use Rattle.dx_model.specs.declared.values.Value.{Value}
use Rattle.dx_stages.specs.declared.stop.Stop.{Stop}
use Rattle.dx_stages.specs.declared.stop.Stop.TheVariants as stops
use Rattle.dx_schema.specs.Forest.{Forest}
use Rattle.dx_schema.specs.Tables.{schema_widths}
use Rattle.dx_instance.specs.Cells.{NumberTable}
use Rattle.dx_instance.specs.Shown.{NumberRowsFit, shown_row, shown_tables}
use Rattle.dx_instance.specs.Stored.{facts}
use Rattle.clio_source.specs.declared.fault.RowsFault.{RowsFault}
use Rattle.clio_source.specs.declared.fault.SourceRefusal.{SourceRefusal}
use Rattle.clio_source.specs.declared.fault.SourceRefusal.TheVariants as refusals
use Rattle.clio_source.specs.Source.{ReadState}
use Rattle.clio_source.specs.declared.reading.Reading.{Reading}
use Rattle.clio_given.specs.declared.values.NoValues.{NoValues}
use Rattle.clio_given.specs.declared.values.NoValues.TheVariants as no_values
use Rattle.clio_given.specs.Given.{ValuesOfFields, IsGivenRowsFault, IsFirstNoRow}

-- ---- values of fields

-- numbers of symbols show the values of fields
abbrev pub ShowsFields : List (List Value) → List Value → NumberTable → Type 0
ShowsFields fields symbols t = ValuesOfFields fields (map (shown_row symbols) t.rows)

-- why the fields of rows have no values
abbrev pub IsNoValueFault : List (List Value) → NoValues → Type 0
IsNoValueFault rows (no_values.Record r) = IsFirstNoRow rows r
IsNoValueFault rows no_values.Memory = Unit {0}

-- ---- what was read

-- the facts that are shown, and what may still come
abbrev pub read_of : Reading → ReadState
read_of r =
    record {
      facts = facts (shown_tables r.symbols r.tables.items);
      bytes_left = r.bytes_left;
      cells_left = r.cells_left;
    }

-- the first n tables of a schema were come to: as many columns as these have, and numbers of the symbols
pub record GivenReadFits (f : Forest) (n : ℕ) (r : Reading) : Type 0 where
  pub widths : map (λ (t : NumberTable). t.width) r.tables.items ≡ take n (schema_widths f)
  pub below : Each r.tables.items (NumberRowsFit (length r.symbols))

-- the same result, by what is shown
abbrev pub shown_result : Result Reading (Stop SourceRefusal) → Result ReadState (Stop SourceRefusal)
shown_result (Ok r) = Ok (read_of r)
shown_result (Err e) = Err e

-- why the rows of a file's bytes were not read
abbrev pub GivenIsNotRead : Forest → ℕ → List ℕ → List ℕ → Stop SourceRefusal → Type 0
GivenIsNotRead f table bytes name (stops.Refused e) =
    (k : RowsFault) × IsGivenRowsFault f table bytes k × (e ≡ refusals.Rows name k)
GivenIsNotRead f table bytes name (stops.Failed n) = ⊥
GivenIsNotRead f table bytes name stops.Memory = Unit {0}
