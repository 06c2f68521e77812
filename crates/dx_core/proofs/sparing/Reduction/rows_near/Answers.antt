use Rattle.dx_base.proofs.Members.{item_in}
use Rattle.dx_core.proofs.Near.{one_more, only_this}
use Rattle.dx_core.proofs.sparing.Reduction.rows_near.Goals as goal
use Rattle.dx_core.proofs.sparing.Reduction.rows_near.Goals.{in-Some+in_ok-push-2, in_default}

pub loop-place-init : goal.loop-place-init
loop-place-init c = only_this c.args.task.now.block.now.rows c.push.new.self.items c.args.at c.requires.at
    (rw c.new-rows.ensures.items at c.in_ok-push.ensures.items)

pub loop-place-preserved : goal.loop-place-preserved
loop-place-preserved c = elim c.match-get.branch [
  | in-Some+in_ok-push-2 w ↦
      let l = w.in-Some.ensures.lookup in
      let m = item_in c.items-block_rows.result.now _ w.in-Some.row.now l.3.0 l.1 in
      rw w.rows-is (one_more c.args.task.now.block.now.rows c.loop-place.rows.items w.push-in-Some.new.self.items w.in-Some.row.now
      (rw c.items-block_rows.ensures at m) w.in_ok-push-2.ensures.items c.loop-place.invariant)
  | in_default w ↦ rw w.rows-is c.loop-place.invariant
]
