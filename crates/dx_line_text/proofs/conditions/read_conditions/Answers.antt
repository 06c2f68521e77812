use Rattle.dx_funcs.specs.Judging.{tested}
use Rattle.dx_line_text.specs.Conditions.{condition_fault, condition_of}
use Rattle.dx_line_text.proofs.Faults.{fault_none}
use Rattle.dx_line_text.proofs.Fits.{all_read}
use Rattle.dx_line_text.proofs.RowTests.{conditions_fit, conditions_tested}
use Rattle.dx_line_text.proofs.conditions.read_conditions.Goals as goal

pub returns-clause-columns : goal.returns-clause-columns
returns-clause-columns g c =
    conditions_fit c.args.source.now (tested c.args.tests.now) c.args.conditions.now c.loop-condition.read
    (all_read (condition_of c.args.source.now (tested c.args.tests.now)) c.args.conditions.now c.loop-condition.condition-index c.loop-condition.read c.loop-condition-test.false c.loop-condition.invariant.0)
    (fault_none (condition_fault c.args.source.now (tested c.args.tests.now)) c.args.conditions.now c.loop-condition.condition-index c.loop-condition-test.false c.loop-condition.invariant.1)

pub returns-clause-listed : goal.returns-clause-listed
returns-clause-listed g c =
    conditions_tested c.args.source.now (tested c.args.tests.now) c.args.conditions.now c.loop-condition.read
    (all_read (condition_of c.args.source.now (tested c.args.tests.now)) c.args.conditions.now c.loop-condition.condition-index c.loop-condition.read c.loop-condition-test.false c.loop-condition.invariant.0)
    (fault_none (condition_fault c.args.source.now (tested c.args.tests.now)) c.args.conditions.now c.loop-condition.condition-index c.loop-condition-test.false c.loop-condition.invariant.1)
