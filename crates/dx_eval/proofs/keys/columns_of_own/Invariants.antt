use Rattle.std.proofs.Common.{◌≡◌, take}
use Rattle.dx_eval.specs.Keeping.{own_columns}
use Rattle.dx_eval.proofs.keys.columns_of_own.Given as goal

abbrev pub invariant-loop-test : goal.invariant-loop-test
invariant-loop-test l = l.columns.items ≡ own_columns (take l.test-index l.tests)
