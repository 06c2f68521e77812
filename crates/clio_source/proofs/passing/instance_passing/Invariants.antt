use Rattle.clio_source.specs.Kept.{row_passes}
use Rattle.clio_source.proofs.PassingRows.{AreTablesKept}
use Rattle.clio_source.proofs.passing.instance_passing.Given as goal

abbrev pub invariant-loop-table : goal.invariant-loop-table
invariant-loop-table g l = AreTablesKept (row_passes g.M.Meaning.passes l.conditions l.numbers.symbols) l.numbers.tables l.table l.tables.items
