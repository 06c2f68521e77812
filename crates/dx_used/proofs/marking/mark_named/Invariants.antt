use Rattle.std.proofs.Common.{take}
use Rattle.dx_base.specs.Members.{Each}
use Rattle.dx_used.specs.Named.{IsNamed}
use Rattle.dx_used.specs.Counting.{NewOnlyWhere, KeepMarks, ReadsNamed}
use Rattle.dx_used.proofs.marking.mark_named.Given as goal

abbrev pub invariant-loop-condition : goal.invariant-loop-condition
invariant-loop-condition l = record {
  named : Each (take l.condition-index l.conditions) (ReadsNamed l.table l.marks);
  new : NewOnlyWhere (IsNamed l.conditions l.table) l.initial.marks l.marks;
  keep : KeepMarks l.initial.marks l.marks;
}
