use Rattle.std.proofs.Common.{◌≡◌, ◌<◌, ℕ, length, take}
use Rattle.dx_base.specs.Members.{Each}
use Rattle.dx_model.specs.Fitting.{IsRule}
use Rattle.dx_used.specs.Counting.{MarksRead, ReadsNamed, UsesOnlyOf}
use Rattle.dx_used.specs.Used.{HaveWidths, marks_at}
use Rattle.dx_used.proofs.marking.used_columns.Given as goal

abbrev pub invariant-loop-table : goal.invariant-loop-table
invariant-loop-table l = record {
  many : length l.used.items ≡ l.table;
  widths : HaveWidths (take l.table l.widths) l.used.items;
  only : (t : ℕ) → t < l.table → Each l.rules (UsesOnlyOf t (marks_at l.used.items t));
  named : (t : ℕ) → t < l.table → Each l.conditions (ReadsNamed t (marks_at l.used.items t));
  read : Each l.rules IsRule → (t : ℕ) → MarksRead l.rules l.conditions t (marks_at l.used.items t);
}
