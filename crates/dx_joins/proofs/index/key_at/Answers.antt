use Rattle.dx_base.proofs.Members.{in_at}
use Rattle.dx_joins.proofs.index.key_at.Goals as goal

pub number_in-requires : goal.number_in-requires
number_in-requires c = c.requires _ (in_at c.args.places.now c.loop-place.place-index 0 c.loop-place-test.true)
