use Rattle.dx_core.proofs.RowsAway.{away_same}
use Rattle.dx_core.proofs.sparing.Reduction.ask_away.Goals as goal

pub returns-clause-moves : goal.returns-clause-moves
returns-clause-moves c =
    let s = c.args.self.now in
    away_same s.numbers c.ask_without_larger.new.self.numbers s.taken c.ask_without_larger.new.self.taken c.args.task.now.block.now.nulls
    (λ v. v.items) c.in_ok-answer.answer c.args.task.now.block.now.rows c.args.at c.ask_without_larger.ensures.numbers
    c.in_ok-away.ensures.taken c.in_ok-answer.ensures.moves
