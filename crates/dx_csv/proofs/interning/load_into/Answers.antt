use Rattle.std.proofs.Common.{length, map, refl}
use Rattle.dx_instance.specs.Shown.{shown_row}
use Rattle.dx_csv.specs.Table.{table_records}
use Rattle.dx_csv.proofs.InternFacts.{fields-many, fields-table}
use Rattle.dx_csv.proofs.interning.load_into.Goals as goal

pub invariant_of-grid : goal.invariant_of-grid
invariant_of-grid c = record {
  whole = fields-many (table_records c.args.bytes.now) c.args.columns.now c.in_ok-read.read.0 c.in_ok-read.read.1 (length c.args.columns.now) refl c.in_ok-read.ensures.rows;
}

pub returns-clause-rows : goal.returns-clause-rows
returns-clause-rows c =
    fields-table c.args.used.now (table_records c.args.bytes.now) c.args.columns.now c.in_ok-read.read.0 c.in_ok-read.read.1 (length c.args.columns.now) (map (shown_row c.rows.new.symbols) c.in_ok-rows.rows.rows)
    refl c.in_ok-read.ensures.rows c.in_ok-rows.ensures.shown
