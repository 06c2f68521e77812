use Rattle.std.proofs.lemmas.Bool.{false≢true}
use Rattle.dx_funcs.specs.Judging.{tested}
use Rattle.dx_line_text.proofs.RowTests.{test_found, test_unknown}
use Rattle.dx_line_text.proofs.conditions.read_test.Goals as goal

pub returns-in_default : goal.returns-in_default
returns-in_default g c = test_unknown (tested c.args.tests.now) c.args.condition.now.test c.args.condition.now.test_place (λ m. false≢true (c.in_default.ensures.none.1 m))

pub returns : goal.returns
returns g c =
    test_found (tested c.args.tests.now) c.in-Some.test.now c.args.condition.now.test c.args.condition.now.test_place c.args.tests.now.tests.names c.in-Some.ensures.some.0 c.in-Some.ensures.some.1
