use Rattle.dx_eval.proofs.Lists.{one_place_more}
use Rattle.dx_eval.proofs.keeping.all_places.Goals as goal

pub loop-place-preserved : goal.loop-place-preserved
loop-place-preserved c = one_place_more c.loop-place.place c.loop-place.places.items c.push.new.self.items c.loop-place.invariant c.in_ok-push.ensures.items
