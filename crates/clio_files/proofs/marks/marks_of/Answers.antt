use Rattle.std.proofs.Common.{◌<◌, arith, length, take}
use Rattle.clio_files.specs.Marks.{table_numbers}
use Rattle.clio_files.proofs.MarkFacts.{tables_marked}
use Rattle.clio_files.proofs.marks.marks_of.Goals as goal

pub loop-table-preserved : goal.loop-table-preserved
loop-table-preserved c =
    let tables = c.args.target.now.tables in
    let i = c.loop-table.table in
    let within : i < length tables = omega (arith, c.tables-table-end.ensures, c.loop-table-test.true) in
    record {
      many = omega (arith, c.mark_table.ensures.many, c.loop-table.invariant.many);
      marked = tables_marked c.args.first tables i c.mark_table.new.marks.items within
          (c.mark_table.ensures.marked (table_numbers (take i tables)) c.loop-table.invariant.marked);
    }
