use Rattle.std.proofs.Common.{◌≡◌, arith}
use Rattle.std.proofs.lemmas.Result.{IfOk-weaker}
use Rattle.dx_instance.specs.Stored.{rows_of}
use Rattle.dx_csv.specs.Print.{IsTableText, records_text, records_of_table}
use Rattle.dx_csv.proofs.TableTextFacts.{table-text, as-many}
use Rattle.dx_csv.proofs.print.print_sorted.Goals as goal

pub prove-unreachable-requires : goal.prove-unreachable-requires
prove-unreachable-requires c = let many = as-many c.args.instance.now c.in_ok-sorted.sorted c.in_ok-sorted.ensures in omega (arith, many, c.requires.table, c.tables.ensures.number, c.if-prove.true)

pub returns : goal.returns
returns c = record {
  text = IfOk-weaker c.lines_of.result (λ t. t.items ≡ records_text (records_of_table c.args.columns.now (rows_of c.in_ok-sorted.sorted c.args.table))) (λ t. IsTableText c.args.columns.now (rows_of c.args.instance.now c.args.table) t.items)
      (λ t. table-text c.args.columns.now c.args.instance.now c.in_ok-sorted.sorted c.args.table t.items c.requires.table c.requires.width c.requires.no_mark c.in_ok-sorted.ensures c.tables.ensures.widths c.tables.ensures.rows) c.lines_of.ensures.text;
  utf8 = c.lines_of.ensures.utf8;
}
