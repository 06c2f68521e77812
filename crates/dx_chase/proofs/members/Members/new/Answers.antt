use Rattle.std.proofs.Common.{◌∙◌}
use Rattle.dx_chase.proofs.SlotFacts.{lists_none_yet}
use Rattle.dx_chase.proofs.members.Members.new.Goals as goal

pub returns : goal.returns
returns c = rw (c.in_ok-slots.ensures, c.new.ensures.items) (lists_none_yet c.args.n)
