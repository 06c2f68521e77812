use Rattle.std.proofs.Common.{refl}
use Rattle.dx_core.proofs.Asked.{mark_place, mark_table}
use Rattle.dx_core.proofs.RowsAway.{all_out, gone_already, gone_more, gone_start}
use Rattle.dx_core.proofs.sparing.Reduction.take_left.Goals as goal

pub take_out-requires-clause-table : goal.take_out-requires-clause-table
take_out-requires-clause-table c =
    mark_table c.loop-at.self.numbers (rw c.loop-at.invariant.numbers c.len.ensures.fit) c.loop-at.self.taken _ c.loop-at.self.marks
    (c.is_left.ensures.row c.if-not-is_left.false)

pub take_out-requires-clause-place : goal.take_out-requires-clause-place
take_out-requires-clause-place c =
    mark_place c.loop-at.self.numbers (rw c.loop-at.invariant.numbers c.len.ensures.fit) c.loop-at.self.taken _ c.loop-at.self.marks
    (c.is_left.ensures.row c.if-not-is_left.false)

pub loop-at-init : goal.loop-at-init
loop-at-init c = record {
  numbers = refl;
  rows = gone_start c.args.self.now.numbers c.args.rows.now c.args.self.now.taken c.new-gone.result.items c.new-gone.ensures.items;
}

pub loop-at-preserved-then-not-is_left : goal.loop-at-preserved-then-not-is_left
loop-at-preserved-then-not-is_left c = record {
  numbers = c.loop-at.invariant.numbers;
  rows = gone_already c.args.self.now.numbers c.len.ensures.fit c.args.rows.now c.args.self.now.taken c.loop-at.self.taken
      c.loop-at.gone.items c.loop-at.at-index c.loop-at.invariant.rows
      (rw c.loop-at.invariant.numbers at (c.is_left.ensures.gone c.if-not-is_left.true));
}

pub loop-at-preserved : goal.loop-at-preserved
loop-at-preserved c =
    let row = rw c.loop-at.invariant.numbers at (c.is_left.ensures.row c.if-not-is_left.false) in record {
      numbers = c.loop-at.invariant.numbers;
      rows = rw c.take_out.ensures (gone_more c.args.self.now.numbers c.len.ensures.fit c.args.rows.now c.args.self.now.taken
          c.loop-at.self.taken c.loop-at.gone.items c.loop-at.at-index c.loop-at.invariant.rows c.push.new.self.items
          (rw c.loop-at.invariant.numbers at c.loop-at.self.marks) row
          (c.is_left.ensures.left c.if-not-is_left.false) c.in_ok-push.ensures.items);
    }

pub returns-clause-out : goal.returns-clause-out
returns-clause-out c =
    all_out c.args.self.now.numbers c.args.rows.now c.loop-at.self.taken c.loop-at.at-index c.loop-at-test.false c.loop-at.invariant.rows.out
