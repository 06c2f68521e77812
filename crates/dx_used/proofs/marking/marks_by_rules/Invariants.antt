use Rattle.std.proofs.Common.{◌≡◌, length, take}
use Rattle.dx_base.specs.Members.{Each}
use Rattle.dx_model.specs.Fitting.{IsRule}
use Rattle.dx_used.specs.Counting.{MarksUsed, UsesOnlyOf}
use Rattle.dx_used.proofs.marking.marks_by_rules.Given as goal

abbrev pub invariant-loop-rule : goal.invariant-loop-rule
invariant-loop-rule l = record {
  width : length l.marks.items ≡ l.width;
  only : Each (take l.rule-index l.rules) (UsesOnlyOf l.table l.marks.items);
  used : Each l.rules IsRule → MarksUsed l.rules l.table l.marks.items;
}
