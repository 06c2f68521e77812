use Rattle.std.proofs.Common.{◌≡◌, take, ℕ, List}
use Rattle.dx_instance.specs.Shown.{numbers_of_table}
use Rattle.dx_joins.specs.Looking.{keys_of}
use Rattle.dx_joins.proofs.index.row_keys.Given as goal

abbrev pub invariant-loop-place : goal.invariant-loop-place
invariant-loop-place l = l.keys.items ≡ keys_of l.columns (take {A = List ℕ} l.place (numbers_of_table l.source.tables l.table).rows)
