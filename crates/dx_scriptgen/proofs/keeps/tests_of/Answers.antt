use Rattle.dx_base.proofs.Loops.{each_item}
use Rattle.dx_model.specs.Covers.{IsNoExistential}
use Rattle.dx_scriptgen.proofs.keeps.tests_of.Goals as goal

pub test_of-requires-clause-known : goal.test_of-requires-clause-known
test_of-requires-clause-known c = each_item IsNoExistential c.args.cells.now c.loop-own.own c.index-cells-own.result c.loop-own-test.true c.index-cells-own.is c.requires.known
