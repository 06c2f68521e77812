use Rattle.dx_blocks.proofs.NumberFilling.{NullsPut}
use Rattle.dx_blocks.proofs.number_filling.place_nulls.Given as goal

abbrev pub invariant-loop-place : goal.invariant-loop-place
invariant-loop-place l = NullsPut l.numbers l.first l.rows l.labels l.place l.blocks
