use Rattle.std.proofs.Common.{arith}
use Rattle.dx_blocks.proofs.NullRowFacts.{row_kept, row_passed}
use Rattle.dx_blocks.proofs.null_rows.push_rows.Goals as goal
use Rattle.dx_blocks.proofs.null_rows.push_rows.Goals.{in-Some+in_ok-push, in_default}

pub loop-place-preserved : goal.loop-place-preserved
loop-place-preserved c = elim c.match-null_in.branch [
  | in-Some+in_ok-push w ↦ rw (w.rows-is, w.in_ok-push.ensures.items)
      (row_kept c.args.numbers.now c.args.first c.args.table c.loop-place.place c.loop-place.rows.items
      (record { table = c.requires.table; place = omega (arith, c.loop-place-test.true, c.count-place-end.ensures) }) c.loop-place.invariant)
  | in_default w ↦ rw w.rows-is
      (row_passed c.args.numbers.now c.args.first c.args.table c.loop-place.place c.loop-place.rows.items
      (rw c.row.ensures.row at w.in_default.ensures.none) c.loop-place.invariant)
]
