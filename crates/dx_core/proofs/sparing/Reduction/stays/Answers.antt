use Rattle.dx_core.proofs.Spared.{same_asked}
use Rattle.dx_core.proofs.sparing.Reduction.stays.Goals as goal

pub stays_by-requires : goal.stays_by-requires
stays_by-requires c = c.requires

pub stays_by-requires-2 : goal.stays_by-requires-2
stays_by-requires-2 c =
    let s = c.args.self.now in
    same_asked s.numbers c.stays_by.new.self.numbers s.taken c.stays_by.new.self.taken c.args.task.now.block.now c.args.task.now.known.items c.args.at
    c.stays_by.ensures.numbers c.in_ok-stays_by.ensures.taken c.requires
