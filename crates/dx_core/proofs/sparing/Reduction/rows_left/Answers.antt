use Rattle.std.proofs.Common.{◌∙◌, sym, arith}
use Rattle.dx_instance.specs.Shown.{numbers_of_table}
use Rattle.dx_core.proofs.Kept.{left_end, left_more, left_out, left_start}
use Rattle.dx_core.proofs.sparing.Reduction.rows_left.Goals as goal
use Rattle.dx_core.proofs.sparing.Reduction.rows_left.Goals.{then-not-has+in_ok-push, else-not-has}

pub loop-place-init : goal.loop-place-init
loop-place-init c = left_start c.args.self.now.taken c.args.table (numbers_of_table c.args.self.now.numbers.tables c.args.table) c.width.result
    c.new-rows.result c.width.ensures c.new-rows.ensures

pub loop-place-preserved : goal.loop-place-preserved
loop-place-preserved c =
    let t = numbers_of_table c.args.self.now.numbers.tables c.args.table in
    elim c.if-not-has.branch [
      | then-not-has+in_ok-push w ↦ rw w.rows-is (left_more c.args.self.now.taken c.args.table t c.loop-place.place c.loop-place.rows
          c.loop-place.invariant w.push.new.self w.row.result.now
          (sym c.has.ensures ∙ w.if-not-has.true) w.row.ensures.row w.in_ok-push.ensures.ok)
      | else-not-has w ↦ rw w.rows-is (left_out c.args.self.now.taken c.args.table t c.loop-place.place c.loop-place.rows c.loop-place.invariant
          (sym c.has.ensures ∙ w.if-not-has.false))
    ]

pub returns : goal.returns
returns c =
    let t = numbers_of_table c.args.self.now.numbers.tables c.args.table in
    left_end c.args.self.now.taken c.args.table t c.loop-place.place c.loop-place.rows
    (omega (arith, c.count-place-end.ensures, c.loop-place-test.false, c.loop-place.auto.place-end)) c.loop-place.invariant
