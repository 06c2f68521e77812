use Rattle.dx_base.proofs.Members.{in_at}
use Rattle.dx_core.proofs.nearness.Ties.new.Goals as goal

pub places_of_nulls-requires : goal.places_of_nulls-requires
places_of_nulls-requires c = c.requires _ (in_at c.args.rows.now c.loop-row.row (record { table = 0; place = 0 }) c.loop-row-test.true)
