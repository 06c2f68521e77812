use Rattle.std.proofs.Common.{◌≡◌, ◌∙◌, ap, arith, length, false, ℕ}
use Rattle.std.specs.Prelude.{replicate}
use Rattle.dx_instance.specs.Stored.{rows_of}
use Rattle.dx_hom.proofs.Marks.{marks_more}
use Rattle.dx_hom.proofs.gone.Gone.none_of.Goals as goal

pub loop-table-preserved : goal.loop-table-preserved
loop-table-preserved c =
    let many : c.in_ok-marks.marks.items ≡ replicate c.count.result false =
    c.in_ok-marks.ensures.items_if_clones_equal (λ y e. e) in
    let marks : c.in_ok-marks.marks.items ≡ replicate (length (rows_of c.args.instance.now c.loop-table.table)) false =
    many ∙ ap (λ (n : ℕ). replicate n false) c.count.ensures in
    let old = c.loop-table.tables.items in
    rw c.in_ok-push.ensures.items
    (marks_more c.args.instance.now c.loop-table.table old c.in_ok-marks.marks (omega arith) marks c.loop-table.invariant)
