use Rattle.std.proofs.Common.{inr}
use Rattle.dx_base.proofs.Members.{in_at}
use Rattle.dx_blocks.specs.declared.numbered.At.{At}
use Rattle.dx_core.specs.Left.{facts_left}
use Rattle.dx_core.proofs.NeverMoved.{one_more_apart, only_itself}
use Rattle.dx_core.proofs.sparing.Reduction.rows_apart.Goals as goal
use Rattle.dx_core.proofs.sparing.Reduction.rows_apart.Goals.{then-never_moves+in_ok-push-2, else-never_moves}

pub loop-row-init : goal.loop-row-init
loop-row-init c = only_itself c.args.self.now.numbers (facts_left c.args.self.now.numbers c.args.self.now.taken) c.args.task.now.block.now.rows
    c.push.new.self.items c.args.at c.requires.at (rw c.new-only.ensures.items at c.in_ok-push.ensures.items)

pub loop-row-preserved : goal.loop-row-preserved
loop-row-preserved c =
    let s = c.args.self.now in
    let d : At = record { table = 0; place = 0 } in
    let m = c.requires.rows _ (in_at c.args.rows.now c.loop-row.row-index d c.loop-row-test.true) in
    elim c.if-never_moves.branch [
      | then-never_moves+in_ok-push-2 w ↦ rw w.only-is (one_more_apart s.numbers (facts_left s.numbers s.taken) c.args.task.now.block.now.rows
          c.loop-row.only.items w.push-then-never_moves.new.self.items c.args.at _
          (record { row = m; apart = inr (c.never_moves.ensures w.if-never_moves.true _ (rw (c.items-nulls.ensures, c.as_slice-known.ensures.value) c.requires.ready.rigid)) })
          w.in_ok-push-2.ensures.items c.loop-row.invariant)
      | else-never_moves w ↦ rw w.only-is c.loop-row.invariant
    ]

pub never_moves-requires-clause-from : goal.never_moves-requires-clause-from
never_moves-requires-clause-from c =
    c.requires.ready.tried.numbers.rows _
    (c.requires.rows _ (in_at c.args.rows.now c.loop-row.row-index (record { table = 0; place = 0 }) c.loop-row-test.true))

pub never_moves-requires-clause-to : goal.never_moves-requires-clause-to
never_moves-requires-clause-to c = c.requires.ready.tried.numbers.rows c.args.at c.requires.at
