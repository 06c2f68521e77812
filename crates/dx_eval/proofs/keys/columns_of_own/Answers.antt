use Rattle.std.proofs.Common.{ap}
use Rattle.dx_eval.specs.Keeping.{own_in}
use Rattle.dx_eval.proofs.Lists.{flat_more, flat_same, no_own}
use Rattle.dx_eval.proofs.keys.columns_of_own.Goals.{in-Columns+in_ok-push, in_default}
use Rattle.dx_eval.proofs.keys.columns_of_own.Goals as goal

pub loop-test-preserved : goal.loop-test-preserved
loop-test-preserved c = elim c.match-test.branch [
  | in-Columns+in_ok-push w ↦ rw w.columns-is (flat_more own_in c.args.tests.now c.loop-test.test-index c.test-item.result c.loop-test.columns.items w.push.new.self.items _ c.loop-test-test.true c.test-item.is (ap own_in w.in-Columns.is) c.loop-test.invariant w.in_ok-push.ensures.items)
  | in_default w ↦ rw w.columns-is (flat_same own_in c.args.tests.now c.loop-test.test-index c.test-item.result c.loop-test.columns.items c.loop-test-test.true c.test-item.is (no_own c.test-item.result w.in_default.not-Columns) c.loop-test.invariant)
]
