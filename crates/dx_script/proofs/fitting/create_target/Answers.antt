use Rattle.std.proofs.Common.{length, arith, sym, ◌∙◌}
use Rattle.std.specs.Prelude.{nat_eq}
use Rattle.dx_schema.specs.Names.{table_names_of}
use Rattle.dx_script.proofs.Made.{named_count}
use Rattle.dx_script.proofs.FitsTest.{same_number, all_created, none_created, one_created, other_created}
use Rattle.dx_script.proofs.fitting.create_target.Goals as goal
use Rattle.dx_script.proofs.fitting.create_target.Goals.{in-Create+else-not-is_table_at, in_default}

pub returns-then-not-is_table_at : goal.returns-then-not-is_table_at
returns-then-not-is_table_at c =
    other_created c.loop-step.next c.loop-step.step-index c.args.steps.now (table_names_of c.args.target.now) c.step-item.result c.in-Create.table c.in-Create.columns c.loop-step-test.true c.step-item.is c.in-Create.is
    c.is_table_at.result c.if-not-is_table_at.true (rw c.items.ensures at c.is_table_at.ensures) c.loop-step.invariant

pub loop-step-preserved : goal.loop-step-preserved
loop-step-preserved c = elim c.match-step.branch [
  | in-Create+else-not-is_table_at w ↦
      rw w.next-is (one_created c.loop-step.next c.loop-step.step-index c.args.steps.now (table_names_of c.args.target.now) c.step-item.result w.in-Create.table w.in-Create.columns c.loop-step-test.true c.step-item.is w.in-Create.is
      (rw w.items.ensures at (w.is_table_at.ensures.0 w.if-not-is_table_at.false)) c.loop-step.invariant)
  | in_default w ↦
      rw w.next-is (none_created c.loop-step.next c.loop-step.step-index c.args.steps.now (table_names_of c.args.target.now) c.step-item.result c.loop-step-test.true c.step-item.is w.in_default.not-Create c.loop-step.invariant)
]

pub returns : goal.returns
returns c =
    all_created c.loop-step.next c.loop-step.step-index c.args.steps.now (table_names_of c.args.target.now) (nat_eq c.loop-step.next c.tables-tables.result) c.loop-step-test.false
    (same_number c.loop-step.next c.tables-tables.result (length (table_names_of c.args.target.now)) (c.tables-tables.ensures.count ∙ sym (named_count c.args.target.now))) c.loop-step.invariant

pub overflow_add-next : goal.overflow_add-next
overflow_add-next c = omega (arith, (c.is_table_at.ensures.0 c.if-not-is_table_at.false).0, named_count c.args.target.now, c.tables-tables.ensures.count, c.tables-tables.type_inv)
