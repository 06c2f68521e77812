use Rattle.std.proofs.Common.{◌<◌, arith, length}
use Rattle.dx_instance.specs.Shown.{numbers_of_table}
use Rattle.dx_base.proofs.Members.{each_at}
use Rattle.dx_solver.proofs.rows.numbers_in.Goals as goal

pub row-requires-clause-place : goal.row-requires-clause-place
row-requires-clause-place c =
    each_at (λ p. p < length (numbers_of_table c.args.numbers.now.tables c.args.table).rows) c.args.places.now c.loop-place.place-index 0
    (omega arith) c.requires.within
