use Rattle.dx_base.specs.Members.{Each}
use Rattle.dx_base.proofs.Loops.{each_item}
use Rattle.dx_instance.specs.Cells.{NumberTable}
use Rattle.dx_joins.specs.Shown.{AllTexts}
use Rattle.dx_tgd.proofs.texts.matches_of.Goals as goal

pub places_of_rows-requires : goal.places_of_rows-requires
places_of_rows-requires c =
    each_item (λ (t : NumberTable). Each t.rows (AllTexts c.args.symbols.now)) c.args.tables.now c.loop-rows.rows-index c.rows-item.result c.loop-rows-test.true c.rows-item.is c.requires.texts
