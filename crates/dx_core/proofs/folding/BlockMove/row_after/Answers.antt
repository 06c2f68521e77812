use Rattle.dx_blocks.specs.NullRows.{row_numbers}
use Rattle.dx_core.specs.Asking.{IsNumberAfter}
use Rattle.dx_core.proofs.Asked.{few_nulls}
use Rattle.dx_core.proofs.Folded.{after_end, after_more, after_start}
use Rattle.dx_core.proofs.folding.BlockMove.row_after.Goals as goal

pub number_after-requires-clause-few : goal.number_after-requires-clause-few
number_after-requires-clause-few c =
    rw c.items-nulls.ensures (few_nulls c.args.numbers.now c.len.ensures.fit c.args.self.now.block.now c.requires.block)

pub number_after-requires-clause-long : goal.number_after-requires-clause-long
number_after-requires-clause-long c = rw c.items-nulls.ensures c.args.self.now.long

pub loop-number-init : goal.loop-number-init
loop-number-init c =
    after_start (IsNumberAfter c.args.self.now.block.now.nulls c.args.self.now.answer.now) (row_numbers c.args.numbers.now c.args.at)
    c.new-after.result.items c.new-after.ensures.items

pub loop-number-preserved : goal.loop-number-preserved
loop-number-preserved c =
    after_more (IsNumberAfter c.args.self.now.block.now.nulls c.args.self.now.answer.now) (row_numbers c.args.numbers.now c.args.at)
    c.loop-number.after.items c.push.new.self.items c.loop-number.number-index c.number_after.result
    (rw c.row-number-items.ensures.row at c.loop-number-test.true)
    (rw (c.items-nulls.ensures, c.row-number-items.ensures.row) at c.number_after.ensures)
    c.in_ok-push.ensures.items c.loop-number.invariant

pub returns : goal.returns
returns c =
    after_end (IsNumberAfter c.args.self.now.block.now.nulls c.args.self.now.answer.now) (row_numbers c.args.numbers.now c.args.at)
    c.loop-number.after.items c.loop-number.number-index (rw c.row-number-items.ensures.row at c.loop-number-test.false) c.loop-number.invariant
