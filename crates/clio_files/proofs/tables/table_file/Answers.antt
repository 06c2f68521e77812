use Rattle.std.proofs.Common.{◌∙◌, ◌++◌, [], ap}
use Rattle.dx_schema.specs.Tables.{no_table, tables_of}
use Rattle.clio_source.specs.Source.{csv_name}
use Rattle.clio_files.proofs.Counts.{rows_as_many}
use Rattle.clio_files.proofs.SheetLists.{width_at}
use Rattle.clio_files.proofs.tables.table_file.Goals as goal

pub print_table_bytes-requires-clause-width : goal.print_table_bytes-requires-clause-width
print_table_bytes-requires-clause-width c =
    let ts = tables_of c.args.schema.now in
    rw c.columns.ensures.names (width_at c.args.instance.now ts c.args.table _ _ c.requires.widths c.requires.table).1

pub returns : goal.returns
returns c =
    let text = rw c.columns.ensures.names at c.in_ok-bytes.ensures.text in
    let within = (width_at c.args.instance.now (tables_of c.args.schema.now) c.args.table (record { width = 0; rows = [] }) no_table c.requires.widths c.requires.table).0 in record {
      name = c.in_ok-file_name.ensures ∙ ap (λ n. c.args.front.now ++ csv_name n) c.name.ensures;
      bytes = text;
      count = c.from.ensures ∙ (c.count.ensures ∙ rows_as_many c.args.instance.now c.args.table text.sorted c.tables.ensures.distinct within text.ascend text.kept text.only);
    }
