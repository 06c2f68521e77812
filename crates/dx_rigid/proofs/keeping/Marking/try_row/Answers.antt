use Rattle.std.proofs.Common.{arith}
use Rattle.dx_rigid.proofs.Rows.{more_kept, row_kept}
use Rattle.dx_rigid.proofs.keeping.Marking.try_row.Goals as goal
use Rattle.dx_rigid.proofs.keeping.Marking.try_row.Goals.{else-len-row-via-then-len-row+in_ok-is_alone+else-branch, else-len-row-via-else-len-row}

pub returns-in_ok-keep_row-clause-kept : goal.returns-in_ok-keep_row-clause-kept
returns-in_ok-keep_row-clause-kept c =
    let s = c.args.numbers.now in
    let r = c.row-row.ensures.row in
    let h = rw (c.deref-2.ensures.value, r) at c.in_ok-columns.ensures in
    more_kept s c.row-row.result.now c.args.self.now.kept.items c.keep_row.new.kept.items c.requires.kept
    (rw r (row_kept s c.len.ensures.fit c.args.at.table c.args.at.place c.in_ok-columns.columns.items (omega arith) (omega arith)
    (rw c.if-branch.true at c.in_ok-is_alone.ensures.alone) (λ x m. (h x m).0) c.args.self.now.kept.items c.requires.kept (λ x m. (h x m).1)))
    c.in_ok-keep_row.ensures

pub returns-else-len-row-clause-indexes : goal.returns-else-len-row-clause-indexes
returns-else-len-row-clause-indexes c = elim c.else-len-row.branch [
  | else-len-row-via-then-len-row+in_ok-is_alone+else-branch w ↦ rw w.self-is w.in_ok-is_alone.ensures.indexes
  | else-len-row-via-else-len-row w ↦ rw w.self-is c.requires.indexes
]
