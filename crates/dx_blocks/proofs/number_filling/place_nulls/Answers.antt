use Rattle.std.proofs.Common.{ap, arith, refl, length}
use Rattle.dx_blocks.specs.declared.numbered.NumberBlock.{NumberBlock}
use Rattle.dx_blocks.proofs.NumberFilling.{nulls_start, number_low, null_kept_read, null_skipped_read, nulls_put}
use Rattle.dx_blocks.proofs.number_filling.place_nulls.Goals as goal
use Rattle.dx_blocks.proofs.number_filling.place_nulls.Goals.{then-len-gt0+in_ok-push, else-len-gt0}

pub loop-place-init : goal.loop-place-init
loop-place-init c =
    nulls_start c.args.numbers.now c.args.first c.args.rows.now c.args.labels.now c.args.blocks.now c.requires.held.filled c.requires.held.within

pub overflow_cast-place : goal.overflow_cast-place
overflow_cast-place c =
    omega (
      arith,
      number_low c.args.numbers.now c.args.first c.args.rows.now c.args.labels.now c.loop-place.blocks c.loop-place.place
          c.requires.labelled.first c.requires.labelled.labels c.loop-place-test.true c.loop-place.invariant,
      c.requires.labelled.first.fit.small,
    )

pub overflow_add-first : goal.overflow_add-first
overflow_add-first c =
    omega (
      arith,
      number_low c.args.numbers.now c.args.first c.args.rows.now c.args.labels.now c.loop-place.blocks c.loop-place.place
          c.requires.labelled.first c.requires.labelled.labels c.loop-place-test.true c.loop-place.invariant,
      c.requires.labelled.first.fit.small,
    )

pub loop-place-preserved : goal.loop-place-preserved
loop-place-preserved c =
    let same = ap (λ (b : NumberBlock). length b.rows) c.index-blocks-label.is in
    elim c.if-len-gt0.branch [
      | then-len-gt0+in_ok-push w ↦ rw w.blocks-is
          (null_kept_read c.args.numbers.now c.args.first c.args.rows.now c.args.labels.now c.loop-place.blocks c.loop-place.place
          c.requires.labelled.first c.requires.labelled.labels c.loop-place-test.true c.loop-place.invariant
          _ c.index-blocks-label.result w.index-blocks-label-then-len-gt0.result
          (omega (arith, w.if-len-gt0.true, c.len.ensures, same)) c.index-blocks-label.is w.in_ok-push.ensures.ok refl)
      | else-len-gt0 w ↦ rw w.blocks-is
          (null_skipped_read c.args.numbers.now c.args.first c.args.rows.now c.args.labels.now c.loop-place.blocks c.loop-place.place
          c.requires.labelled.first c.requires.labelled.labels c.loop-place-test.true c.loop-place.invariant
          c.index-blocks-label.result (omega (arith, w.if-len-gt0.false, c.len.ensures, same)) c.index-blocks-label.is)
    ]

pub returns-clause-filled : goal.returns-clause-filled
returns-clause-filled c =
    nulls_put c.args.numbers.now c.args.first c.args.rows.now c.args.labels.now c.loop-place.place c.loop-place.blocks c.requires.labelled.first.fit
    c.requires.labelled.first c.requires.labelled.rows c.requires.labelled.labels c.loop-place-test.false c.loop-place.invariant
