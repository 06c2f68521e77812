use Rattle.std.proofs.Common.{◌≡◌, length}
use Rattle.dx_solver.proofs.rows.allows_row.Given as goal

abbrev pub invariant-loop-column : goal.invariant-loop-column
invariant-loop-column l = length l.terms ≡ length l.row
