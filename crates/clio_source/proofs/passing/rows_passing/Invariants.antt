use Rattle.dx_instance.specs.Shown.{numbers_of_table}
use Rattle.clio_source.specs.Kept.{row_passes}
use Rattle.clio_source.proofs.PassingRows.{AreKeptTo}
use Rattle.clio_source.proofs.passing.rows_passing.Given as goal

abbrev pub invariant-loop-place : goal.invariant-loop-place
invariant-loop-place g l =
    AreKeptTo (row_passes g.M.Meaning.passes l.conditions l.numbers.symbols l.table) (numbers_of_table l.numbers.tables l.table) l.place l.rows
