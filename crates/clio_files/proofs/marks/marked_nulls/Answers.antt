use Rattle.std.proofs.Common.{◌<◌, ◌+◌, ◌∙◌, arith, length, sym}
use Rattle.std.proofs.lemmas.Bool.{false≢true}
use Rattle.clio_files.proofs.MarkFacts.{collected_more, collected_same}
use Rattle.clio_files.proofs.marks.marked_nulls.Goals as goal
use Rattle.clio_files.proofs.marks.marked_nulls.Goals.{then-marks-place+in-Null+in_ok-push, then-marks-place+in_default, else-marks-place}

pub loop-place-preserved : goal.loop-place-preserved
loop-place-preserved c =
    let symbols = c.args.target.now.symbols in
    let first = c.args.first in
    let marks = c.args.marks.now in
    let j = c.loop-place.place in
    let nulls = c.loop-place.nulls.items in
    let within : first + j < length symbols = omega (arith, c.requires.many, c.loop-place-test.true) in
    elim c.if-marks-place.branch [
      | then-marks-place+in-Null+in_ok-push w ↦
          rw (w.nulls-is, w.in_ok-push.ensures.items)
          (collected_more symbols first marks j nulls w.in-Null.null c.requires.ascend within w.if-marks-place.true
          (sym w.value.ensures ∙ w.in-Null.is) c.loop-place.invariant)
      | then-marks-place+in_default w ↦
          rw w.nulls-is
          (collected_same symbols first marks j nulls (λ e n v. absurd (cc (w.value.ensures, w.in_default.is, v))) c.loop-place.invariant)
      | else-marks-place w ↦
          rw w.nulls-is
          (collected_same symbols first marks j nulls (λ e n v. absurd (false≢true (sym w.if-marks-place.false ∙ e))) c.loop-place.invariant)
    ]
