use Rattle.dx_core.proofs.Near.{answer_same}
use Rattle.dx_core.proofs.Spared.{same_asked}
use Rattle.dx_core.proofs.sparing.Reduction.ask_whole.Goals as goal

pub ask_away-requires : goal.ask_away-requires
ask_away-requires c = c.requires

pub ask-requires-clause-asked : goal.ask-requires-clause-asked
ask-requires-clause-asked c =
    let s = c.args.self.now in
    same_asked s.numbers c.ask_away.new.self.numbers s.taken c.ask_away.new.self.taken c.args.task.now.block.now c.args.task.now.known.items c.args.at
    c.ask_away.ensures.numbers c.in_ok-away.ensures.taken c.requires

pub returns-clause-exact : goal.returns-clause-exact
returns-clause-exact c =
    let s = c.args.self.now in
    answer_same s.numbers c.ask_away.new.self.numbers s.taken c.ask_away.new.self.taken c.args.task.now.block.now.nulls (λ v. v.items)
    c.in_ok-together.together c.args.task.now.block.now.rows c.args.at c.ask_away.ensures.numbers c.in_ok-away.ensures.taken
    (rw c.items.ensures at c.in_ok-together.ensures.exact)
