use Rattle.std.proofs.Common.{◌≡◌, take}
use Rattle.std.specs.Prelude.{map}
use Rattle.dx_instance.specs.Indexes.{number_in}
use Rattle.dx_instance.specs.Shown.{numbers_of_table}
use Rattle.dx_solver.proofs.rows.numbers_in.Given as goal

abbrev pub invariant-loop-place : goal.invariant-loop-place
invariant-loop-place l =
    l.all.items ≡ map (number_in (numbers_of_table l.numbers.tables l.table).rows l.column) (take l.place-index l.places)
