use Rattle.std.proofs.Common.{◌≡◌, ◌∙◌, ap, arith, length, false, ℕ}
use Rattle.std.specs.Prelude.{replicate}
use Rattle.dx_instance.specs.Shown.{numbers_of_table}
use Rattle.dx_solver.proofs.Marks.{marks_more}
use Rattle.dx_solver.proofs.taken.Taken.none_of.Goals as goal

pub loop-table-preserved : goal.loop-table-preserved
loop-table-preserved c =
    let many : c.in_ok-marks.marks.items ≡ replicate c.count.result false =
    c.in_ok-marks.ensures.items_if_clones_equal (λ y e. e) in
    let marks : c.in_ok-marks.marks.items ≡ replicate (length (numbers_of_table c.args.numbers.now.tables c.loop-table.table).rows) false =
    many ∙ ap (λ (n : ℕ). replicate n false) c.count.ensures in
    let old = c.loop-table.tables.items in
    rw c.in_ok-push.ensures.items
    (marks_more c.args.numbers.now.tables c.loop-table.table old c.in_ok-marks.marks (omega arith) marks c.loop-table.invariant)
