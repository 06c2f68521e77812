use Rattle.dx_core.proofs.Spared.{same_asked}
use Rattle.dx_core.proofs.sparing.Reduction.is_held.Goals as goal

pub is_held_by-requires : goal.is_held_by-requires
is_held_by-requires c = c.requires

pub is_held_by-requires-2 : goal.is_held_by-requires-2
is_held_by-requires-2 c =
    let s = c.args.self.now in
    same_asked s.numbers c.is_held_by.new.self.numbers s.taken c.is_held_by.new.self.taken c.args.task.now.block.now c.args.task.now.known.items c.args.at
    c.is_held_by.ensures.numbers c.in_ok-is_held_by.ensures.taken c.requires
