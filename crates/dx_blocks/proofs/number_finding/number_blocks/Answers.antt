use Rattle.std.proofs.Common.{length}
use Rattle.dx_blocks.proofs.NumberBlocks.{rows_there, facts_up}
use Rattle.dx_blocks.proofs.number_finding.number_blocks.Goals as goal

pub number_labels-requires-clause-rows : goal.number_labels-requires-clause-rows
number_labels-requires-clause-rows c =
    rw c.deref.ensures.value
    (rows_there c.args.numbers.now c.first_null-first.result (length c.args.numbers.now.tables) 0 c.in_ok-rows.rows.items c.in_ok-rows.ensures)

pub filled_blocks-requires-clause-rows : goal.filled_blocks-requires-clause-rows
filled_blocks-requires-clause-rows c = rw c.deref-2.ensures.value c.in_ok-rows.ensures

pub filled_blocks-requires-clause-ascend : goal.filled_blocks-requires-clause-ascend
filled_blocks-requires-clause-ascend c =
    rw c.deref-2.ensures.value
    (facts_up c.args.numbers.now c.first_null-first.result (length c.args.numbers.now.tables) 0 c.in_ok-rows.rows.items c.first_null-first.ensures.fit
    c.first_null-first.ensures c.requires.rows c.in_ok-rows.ensures)

pub filled_blocks-requires-clause-labelled : goal.filled_blocks-requires-clause-labelled
filled_blocks-requires-clause-labelled c = record {
  first = c.first_null-first.ensures;
  rows = rw c.deref-2.ensures.value
      (rows_there c.args.numbers.now c.first_null-first.result (length c.args.numbers.now.tables) 0 c.in_ok-rows.rows.items c.in_ok-rows.ensures);
  labels = rw (c.deref-2.ensures.value, c.deref-3.ensures.value) (rw c.deref.ensures.value at c.in_ok-labels.ensures);
}
