use Rattle.dx_core.specs.Left.{facts_left}
use Rattle.dx_core.proofs.NeverMoved.{apart_avoids}
use Rattle.dx_core.proofs.Near.{told_none}
use Rattle.dx_core.proofs.sparing.Reduction.stays_by.Goals as goal

pub rows_near-requires-clause-row : goal.rows_near-requires-clause-row
rows_near-requires-clause-row c = c.requires.ready.tried.numbers.rows c.args.at c.requires.row

pub rows_near-requires-clause-at : goal.rows_near-requires-clause-at
rows_near-requires-clause-at c = c.requires.row

pub rows_apart-requires-clause-ready : goal.rows_apart-requires-clause-ready
rows_apart-requires-clause-ready c = c.requires.ready

pub rows_apart-requires-clause-at : goal.rows_apart-requires-clause-at
rows_apart-requires-clause-at c = c.requires.row

pub ask-requires-clause-asked : goal.ask-requires-clause-asked
ask-requires-clause-asked c = c.requires

pub ask-requires-clause-rows : goal.ask-requires-clause-rows
ask-requires-clause-rows c = λ r m. (c.in_ok-rows.ensures r (rw c.deref-2.ensures.value at m)).row

pub returns-clause-stays : goal.returns-clause-stays
returns-clause-stays c = λ e.
    let s = c.args.self.now in
    apart_avoids s.numbers (facts_left s.numbers s.taken) c.args.task.now.block.now.rows c.in_ok-rows.rows.items c.args.at c.in_ok-rows.ensures
    (told_none _ c.in_ok-answer.answer _ c.is_none.ensures e (rw c.deref-2.ensures.value at c.in_ok-answer.ensures.exact))
