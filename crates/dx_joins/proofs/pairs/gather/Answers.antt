use Rattle.dx_base.proofs.Members.{in_at}
use Rattle.dx_joins.proofs.pairs.gather.Goals as goal

pub number_at-requires : goal.number_at-requires
number_at-requires c = c.requires.within _ (in_at c.args.places.now c.loop-place.place-index 0 c.loop-place-test.true)
