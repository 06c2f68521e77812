use Rattle.std.proofs.Common.{get_or}
use Rattle.std.proofs.lemmas.List.{get_or_default}
use Rattle.dx_used.proofs.MarkFacts.{keep_trans, new_none, no_change}
use Rattle.dx_used.specs.Named.{IsNamed}
use Rattle.dx_used.proofs.NamedFacts.{named_more, new_by_condition, no_condition}
use Rattle.dx_used.proofs.marking.mark_named.Goals.{then-condition-table, else-condition-table}
use Rattle.dx_used.proofs.marking.mark_named.Goals as goal

pub loop-condition-init : goal.loop-condition-init
loop-condition-init c = record {
  named = λ x m. elim m [ ];
  new = new_none (IsNamed c.args.conditions.now c.args.table) c.args.marks.now;
  keep = no_change c.args.marks.now;
}

pub loop-condition-preserved : goal.loop-condition-preserved
loop-condition-preserved c =
    let all = c.args.conditions.now in
    let i = c.loop-condition.condition-index in
    let item = get_or all i no_condition in
    let is = get_or_default all i no_condition item c.loop-condition-test.true in
    let marks = c.loop-condition.marks in
    elim c.if-condition-table.branch [
      | then-condition-table w ↦ rw w.marks-is record {
        named = named_more all c.args.table marks w.mark_column.new.marks i item c.loop-condition-test.true is c.loop-condition.invariant.named
            w.mark_column.ensures.keep (λ t. w.mark_column.ensures.marked);
        new = new_by_condition all c.args.table i item c.args.marks.now marks w.mark_column.new.marks c.loop-condition-test.true is
            w.if-condition-table.true c.loop-condition.invariant.new w.mark_column.ensures.new;
        keep = keep_trans c.args.marks.now marks w.mark_column.new.marks c.loop-condition.invariant.keep w.mark_column.ensures.keep;
      }
      | else-condition-table w ↦ rw w.marks-is record {
        named = named_more all c.args.table marks marks i item c.loop-condition-test.true is c.loop-condition.invariant.named
            (no_change marks) (λ t. absurd (w.if-condition-table.false t));
        new = c.loop-condition.invariant.new;
        keep = c.loop-condition.invariant.keep;
      }
    ]
