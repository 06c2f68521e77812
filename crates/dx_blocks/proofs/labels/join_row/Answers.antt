use Rattle.dx_blocks.proofs.NullLists.{value_in}
use Rattle.dx_blocks.proofs.Labelling.{row_start, no_null_more, null_more, row_joined}
use Rattle.dx_blocks.proofs.labels.join_row.Goals as goal
use Rattle.dx_blocks.proofs.labels.join_row.Goals.{in-Null, in_default}

pub loop-value-init : goal.loop-value-init
loop-value-init c = row_start c.args.nulls.now c.args.row.now c.args.first c.args.parents.now c.requires.forest.falls

pub place_of-requires-clause-known : goal.place_of-requires-clause-known
place_of-requires-clause-known c =
    c.requires.known.known c.in-Null.null
    (value_in c.args.row.now c.loop-value.value-index c.value-item.result c.in-Null.null
    c.loop-value-test.true c.value-item.is c.in-Null.is)

pub loop-value-preserved : goal.loop-value-preserved
loop-value-preserved c = elim c.match-value.branch [
  | in-Null w ↦ rw w.parents-is
      (null_more c.args.nulls.now c.args.row.now c.args.first c.args.parents.now c.loop-value.parents c.loop-value.value-index
      c.value-item.result c.loop-value-test.true c.value-item.is c.loop-value.invariant w.join.new.parents w.place_of.result w.in-Null.null
      c.requires.known.ascend c.requires.first w.place_of.ensures.within w.place_of.ensures.is w.in-Null.is w.join.ensures)
  | in_default w ↦ rw w.parents-is
      (no_null_more c.args.nulls.now c.args.row.now c.args.first c.args.parents.now c.loop-value.parents c.loop-value.value-index
      c.value-item.result c.loop-value-test.true c.value-item.is c.loop-value.invariant w.in_default.not-Null)
]

pub returns : goal.returns
returns c =
    row_joined c.args.nulls.now c.args.row.now c.args.first c.loop-value.value-index c.args.parents.now c.loop-value.parents
    c.loop-value-test.false c.loop-value.invariant
