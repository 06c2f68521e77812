use Rattle.std.proofs.Common.{◌∙◌, ap, length, subst, sym, List}
use Rattle.dx_base.specs.Members.{◌∈◌}
use Rattle.dx_model.specs.declared.values.Value.{Value}
use Rattle.dx_csv.specs.Table.{table_records}
use Rattle.clio_given.proofs.Parsed.{table_wide}
use Rattle.clio_given.proofs.reading.rows_of_bytes.Goals as goal

pub rows_of-requires : goal.rows_of-requires
rows_of-requires c = record {
  wide = λ fields m.
      table_wide (table_records c.args.bytes.now) c.columns.result.now c.in-Ok.records.items c.in-Ok.ensures.rows fields
      (subst (λ (rs : List (List Value)). fields ∈ rs) c.deref.ensures.value m)
      ∙ (ap length c.columns.ensures.names ∙ sym c.width.ensures.number);
}
