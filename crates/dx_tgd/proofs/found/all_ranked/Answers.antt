use Rattle.std.proofs.Common.{length}
use Rattle.dx_base.specs.Members.{Each}
use Rattle.dx_base.proofs.Loops.{each_item}
use Rattle.dx_instance.specs.Cells.{IsOrderOf, NumberTable}
use Rattle.dx_instance.specs.Shown.{NumbersBelow, renumbered}
use Rattle.dx_tgd.proofs.Founds.{zip_more}
use Rattle.dx_tgd.proofs.found.all_ranked.Goals as goal

pub ranked-requires : goal.ranked-requires
ranked-requires c =
    each_item (λ (t : NumberTable). Each t.rows (NumbersBelow (length c.args.ranks.now))) c.args.tables.now c.loop-rows.rows-index c.rows-item.result c.loop-rows-test.true c.rows-item.is c.requires

pub loop-rows-preserved : goal.loop-rows-preserved
loop-rows-preserved c =
    zip_more (λ (t u : NumberTable). IsOrderOf (renumbered c.args.ranks.now t) u) c.args.tables.now c.loop-rows.all.items c.push.new.self.items c.loop-rows.rows-index c.rows-item.result c.in_ok-ranked.field-0
    c.loop-rows-test.true c.rows-item.is c.in_ok-push.ensures.items c.loop-rows.invariant c.in_ok-ranked.ensures
