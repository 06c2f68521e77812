use Rattle.std.proofs.Common.{◌≡◌, take}
use Rattle.dx_base.specs.Members.{Each}
use Rattle.dx_model.specs.Fitting.{IsRule}
use Rattle.dx_used.specs.Used.{CellsIdle, IsUsedBy}
use Rattle.dx_used.specs.Counting.{NewOnlyWhere, KeepMarks}
use Rattle.dx_used.proofs.marking.mark_rule.Given as goal

abbrev pub invariant-loop-atom : goal.invariant-loop-atom
invariant-loop-atom l = record {
  only : Each (take l.atom-index l.rule.premise) (λ a. a.table ≡ l.table → CellsIdle l.rule l.marks a.cells);
  used : IsRule l.rule → NewOnlyWhere (IsUsedBy l.rule l.table) l.initial.marks l.marks;
  keep : KeepMarks l.initial.marks l.marks;
}
