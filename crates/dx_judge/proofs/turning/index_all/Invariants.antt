use Rattle.std.proofs.Common.{◌≡◌}
use Rattle.dx_judge.proofs.turning.index_all.Given as goal

abbrev pub invariant-loop-column : goal.invariant-loop-column
invariant-loop-column l = l.instance ≡ l.fn.instance

abbrev pub invariant-loop-table : goal.invariant-loop-table
invariant-loop-table l = l.instance ≡ l.fn.instance
