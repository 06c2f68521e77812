use Rattle.dx_tgd_text.proofs.Sets.{entered}
use Rattle.dx_tgd_text.proofs.names.Names.enter.Goals as goal

pub returns : goal.returns
returns c = rw (← c.self.view_is) (entered c.args.name.now c.self.inside.names.keys c.insert_full.new.self.keys (rw c.in_ok-copy.ensures at c.in_ok-insert_full.ensures.keys))
