use Rattle.dx_blocks.proofs.NumberFilling.{RowsPut}
use Rattle.dx_blocks.proofs.number_filling.place_rows.Given as goal

abbrev pub invariant-loop-at : goal.invariant-loop-at
invariant-loop-at l = RowsPut l.numbers l.first l.rows l.labels l.at-index l.blocks
