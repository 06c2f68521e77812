use Rattle.dx_base.proofs.Members.{in_at}
use Rattle.dx_instance.specs.Shown.{NumbersFit}
use Rattle.std.proofs.Common.{subst, sym, length}
use Rattle.dx_instance.specs.Cells.{NumberTable}
use Rattle.dx_instance.proofs.instance.row_images.Goals as goal

pub renumbered-requires : goal.renumbered-requires
renumbered-requires c =
    (subst (λ (t : NumberTable). NumbersFit (length c.args.images.now) t) (sym c.table-item.is) (c.requires _ (in_at c.args.tables.now c.loop-table.table-index c.table-item.result c.loop-table-test.true))).within
