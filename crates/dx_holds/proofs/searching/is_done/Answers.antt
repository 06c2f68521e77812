use Rattle.std.proofs.Common.{◌≡◌, rules}
use Rattle.dx_holds.proofs.Finding.{done_tells}
use Rattle.dx_holds.proofs.searching.is_done.Goals as goal

pub returns : goal.returns
returns c = done_tells c.args.done.now c.args.atom c.contains.result c.contains.ensures.value
