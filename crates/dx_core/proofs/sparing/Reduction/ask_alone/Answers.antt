use Rattle.dx_core.proofs.Spared.{only_row, same_asked}
use Rattle.dx_core.proofs.sparing.Reduction.ask_alone.Goals as goal

pub ask-requires-clause-rows : goal.ask-requires-clause-rows
ask-requires-clause-rows c = only_row c.args.task.now.block.now.rows c.args.at c.requires.row c.from_ref.result.now c.from_ref.ensures.value

pub ask-requires-clause-asked : goal.ask-requires-clause-asked
ask-requires-clause-asked c = c.requires

pub stays-requires : goal.stays-requires
stays-requires c =
    let s = c.args.self.now in
    same_asked s.numbers c.ask.new.self.numbers s.taken c.ask.new.self.taken c.args.task.now.block.now c.args.task.now.known.items c.args.at
    c.in_ok-alone.ensures.numbers c.in_ok-alone.ensures.taken c.requires

pub returns-in-None-clause-exact : goal.returns-in-None-clause-exact
returns-in-None-clause-exact c = rw (c.in-None.is, c.from_ref.ensures.value) at c.in_ok-alone.ensures.exact

pub returns-clause-exact : goal.returns-clause-exact
returns-clause-exact c = rw c.from_ref.ensures.value at c.in_ok-alone.ensures.exact
