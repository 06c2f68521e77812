use Rattle.dx_base.proofs.Members.{in_at}
use Rattle.dx_cover.proofs.covers.maps_from.Goals as goal

pub cover-requires-clause-widths : goal.cover-requires-clause-widths
cover-requires-clause-widths c = c.requires.widths c.j-item.result (rw c.j-item.is (in_at c.args.rules.now c.loop-j.j-index c.j-item.result c.loop-j-test.true))
