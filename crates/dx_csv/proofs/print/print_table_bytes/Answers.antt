use Rattle.std.proofs.Common.{◌≡◌}
use Rattle.std.proofs.lemmas.Bool.{OnTrue_at}
use Rattle.std.proofs.lemmas.Result.{IfOk-weaker}
use Rattle.dx_model.specs.Values.{RowsAscend}
use Rattle.dx_instance.specs.Stored.{rows_of}
use Rattle.dx_csv.specs.Print.{IsTableText, records_text, records_of_table}
use Rattle.dx_csv.proofs.TableTextFacts.{same-text}
use Rattle.dx_csv.proofs.print.print_table_bytes.Goals as goal

pub returns-then-is_ascending : goal.returns-then-is_ascending
returns-then-is_ascending c =
    let columns = c.args.columns.now in
    let rows = rows_of c.args.instance.now c.args.table in
    let ascend : RowsAscend rows = OnTrue_at {P = RowsAscend rows} c.if-is_ascending.true c.is_ascending.ensures in
    record {
      text = IfOk-weaker c.lines_of.result (λ t. t.items ≡ records_text (records_of_table columns rows)) (λ t. IsTableText columns rows t.items)
          (λ t. same-text columns c.args.instance.now c.args.table t.items c.requires.table c.requires.width c.requires.no_mark ascend c.tables.ensures.widths c.tables.ensures.rows) c.lines_of.ensures.text;
      utf8 = c.lines_of.ensures.utf8;
    }
