use Rattle.std.proofs.Common.{length, sym, subst}
use Rattle.dx_base.specs.Members.{Each}
use Rattle.dx_base.proofs.Members.{in_at}
use Rattle.dx_instance.specs.Cells.{NumberTable}
use Rattle.dx_instance.specs.Shown.{NumberRowsFit}
use Rattle.dx_keys.proofs.reading.at_roots.Goals as goal

pub renumbered-requires : goal.renumbered-requires
renumbered-requires c =
    let fit : Each c.deref-rows-items.result.now (NumberRowsFit (length c.args.roots.now)) = rw c.deref-rows-items.ensures.value c.requires in
    (subst (λ (t : NumberTable). NumberRowsFit (length c.args.roots.now) t) (sym c.rows-item.is) (fit _ (in_at c.deref-rows-items.result.now c.loop-rows.rows-index c.rows-item.result c.loop-rows-test.true))).within
