use Rattle.std.proofs.Common.{arith}
use Rattle.dx_base.proofs.Members.{in_at}
use Rattle.dx_core.proofs.NeverMoved.{as_wide, other_number}
use Rattle.dx_core.proofs.apart.never_becomes.Goals as goal

pub is_kept_off-requires : goal.is_kept_off-requires
is_kept_off-requires c =
    c.row-old_row.ensures.below _ (in_at c.row-old_row.result.now c.loop-column.column 0 c.loop-column-test.true)

pub returns-then-is_kept_off : goal.returns-then-is_kept_off
returns-then-is_kept_off c = λ e T k.
    let N = c.args.numbers.now in
    let i = c.loop-column.column in
    let h = rw c.row-old_row.ensures.row at c.loop-column-test.true in
    let w = as_wide N c.len.ensures.fit c.args.from c.args.to c.requires.from c.requires.to c.requires.table in
    let d = rw (c.row-old_row.ensures.row, c.row-new_row.ensures.row) at (c.is_kept_off.ensures.differs c.if-is_kept_off.true) in
    let s = rw c.row-old_row.ensures.row at (c.is_kept_off.ensures.kept c.if-is_kept_off.true T k) in
    other_number N c.len.ensures.fit c.args.from c.args.to c.requires.from c.requires.to T i h (omega (arith, h, w)) d s
