use Rattle.dx_core.proofs.Staying.{whole_reduction}
use Rattle.dx_core.proofs.reducing.whole.Goals as goal

pub returns : goal.returns
returns c = whole_reduction (record { instance = c.args.instance; map = c.new.result }) c.requires c.new.ensures
