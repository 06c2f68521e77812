use Rattle.std.proofs.Common.{◌≡◌, ◌<◌, ℕ, List, length, get_or, refl}
use Rattle.std.proofs.lemmas.List.{get_or_default}
use Rattle.dx_base.specs.Members.{Each}
use Rattle.dx_base.proofs.Members.{in_at}
use Rattle.dx_instance.specs.Shown.{NumberedInstance}
use Rattle.dx_blocks.specs.declared.numbered.At.{At}
use Rattle.dx_blocks.specs.Numbered.{IsRowIn}
use Rattle.dx_blocks.proofs.NumberFilling.{label_within, block_within, row_put_read, row_skipped, rows_put}
use Rattle.dx_blocks.proofs.number_filling.place_rows.Goals as goal
use Rattle.dx_blocks.proofs.number_filling.place_rows.Goals.{in-Some+in_ok-push, in_default}

abbrev item : List At → ℕ → At
item rows i = get_or rows i (record { table = 0; place = 0 })

there_is : (N : NumberedInstance) (rows : List At) (i : ℕ) → Each rows (IsRowIn N) → i < length rows → IsRowIn N (item rows i)
there_is N rows i r h = r (item rows i) (in_at rows i (record { table = 0; place = 0 }) h)

item_is : (rows : List At) (i : ℕ) → i < length rows → item rows i ≡ get_or rows i (item rows i)
item_is rows i h = get_or_default rows i (record { table = 0; place = 0 }) (item rows i) h

pub loop-at-init : goal.loop-at-init
loop-at-init c = record { filled = c.requires.held.filled; within = c.requires.held.within }

pub row-requires-clause-table : goal.row-requires-clause-table
row-requires-clause-table c = (there_is c.args.numbers.now c.args.rows.now c.loop-at.at-index c.requires.labelled.rows c.loop-at-test.true).table

pub row-requires-clause-place : goal.row-requires-clause-place
row-requires-clause-place c = (there_is c.args.numbers.now c.args.rows.now c.loop-at.at-index c.requires.labelled.rows c.loop-at-test.true).place

pub bounds-labels-one : goal.bounds-labels-one
bounds-labels-one c =
    label_within c.args.numbers.now c.args.first c.args.rows.now c.args.labels.now c.loop-at.blocks c.loop-at.at-index
    (item c.args.rows.now c.loop-at.at-index) c.requires.labelled.first.fit c.requires.labelled.first c.requires.labelled.rows c.loop-at-test.true
    (item_is c.args.rows.now c.loop-at.at-index c.loop-at-test.true) c.loop-at.invariant c.in-Some.one
    (rw c.row.ensures.row at (c.in-Some.ensures.some.0)) c.in-Some.ensures.some.1 c.requires.labelled.labels

pub bounds-blocks-labels : goal.bounds-blocks-labels
bounds-blocks-labels c =
    block_within c.args.numbers.now c.args.first c.args.rows.now c.args.labels.now c.loop-at.blocks c.loop-at.at-index
    (item c.args.rows.now c.loop-at.at-index) c.requires.labelled.first.fit c.requires.labelled.first c.requires.labelled.rows c.loop-at-test.true
    (item_is c.args.rows.now c.loop-at.at-index c.loop-at-test.true) c.loop-at.invariant c.in-Some.one
    (rw c.row.ensures.row at (c.in-Some.ensures.some.0)) c.in-Some.ensures.some.1 c.requires.labelled.labels

pub loop-at-preserved : goal.loop-at-preserved
loop-at-preserved c =
    let e = item_is c.args.rows.now c.loop-at.at-index c.loop-at-test.true in
    elim c.match-null_in.branch [
      | in-Some+in_ok-push w ↦ rw w.blocks-is
          (row_put_read c.args.numbers.now c.args.first c.args.rows.now c.args.labels.now c.loop-at.blocks c.loop-at.at-index
          (item c.args.rows.now c.loop-at.at-index) c.requires.labelled.first.fit c.requires.labelled.first c.requires.labelled.rows c.loop-at-test.true e
          c.loop-at.invariant w.in-Some.one (rw c.row.ensures.row at (w.in-Some.ensures.some.0)) w.in-Some.ensures.some.1 c.requires.labelled.labels
          _ w.index-blocks-labels.result c.requires.ascend w.in_ok-push.ensures.ok refl)
      | in_default w ↦ rw w.blocks-is
          (row_skipped c.args.numbers.now c.args.first c.args.rows.now c.args.labels.now c.loop-at.blocks c.loop-at.at-index
          (item c.args.rows.now c.loop-at.at-index) c.requires.labelled.first.fit c.requires.labelled.first c.requires.labelled.rows c.loop-at-test.true e
          c.loop-at.invariant (rw c.row.ensures.row at w.in_default.ensures.none))
    ]

pub returns-clause-filled : goal.returns-clause-filled
returns-clause-filled c =
    rows_put c.args.numbers.now c.args.first c.args.rows.now c.args.labels.now c.loop-at.at-index c.loop-at.blocks c.loop-at-test.false
    c.loop-at.invariant
