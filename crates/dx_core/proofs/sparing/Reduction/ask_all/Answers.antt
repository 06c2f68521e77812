use Rattle.std.proofs.Common.{◌∙◌, ap, length, sym}
use Rattle.dx_core.proofs.Near.{answer_same}
use Rattle.dx_core.proofs.Spared.{one_row, same_asked}
use Rattle.dx_core.proofs.sparing.Reduction.ask_all.Goals as goal

pub returns-then-rows-eq1-clause-exact : goal.returns-then-rows-eq1-clause-exact
returns-then-rows-eq1-clause-exact c =
    rw (one_row c.args.task.now.block.now.rows c.args.at (ap (λ xs. length xs) (sym c.items-rows.ensures) ∙ c.if-rows-eq1.true) c.requires.asked.row)
    c.requires.alone

pub is_held-requires : goal.is_held-requires
is_held-requires c = c.requires.asked

pub ask_whole-requires : goal.ask_whole-requires
ask_whole-requires c =
    let s = c.args.self.now in
    same_asked s.numbers c.is_held.new.self.numbers s.taken c.is_held.new.self.taken c.args.task.now.block.now c.args.task.now.known.items c.args.at
    c.is_held.ensures.numbers c.in_ok-is_held.ensures.taken c.requires.asked

pub returns-clause-exact : goal.returns-clause-exact
returns-clause-exact c =
    let s = c.args.self.now in
    answer_same s.numbers c.is_held.new.self.numbers s.taken c.is_held.new.self.taken c.args.task.now.block.now.nulls (λ v. v.items)
    c.in_ok-together.together c.args.task.now.block.now.rows c.args.at c.is_held.ensures.numbers c.in_ok-is_held.ensures.taken c.in_ok-together.ensures.exact
