use Rattle.dx_blocks.specs.Numbered.{fact_of}
use Rattle.dx_core.specs.Left.{facts_left}
use Rattle.dx_core.proofs.Near.{part_avoids, told_none}
use Rattle.dx_core.proofs.sparing.Reduction.is_held_by.Goals as goal

pub rows_near-requires-clause-row : goal.rows_near-requires-clause-row
rows_near-requires-clause-row c = c.requires.ready.tried.numbers.rows c.args.at c.requires.row

pub rows_near-requires-clause-at : goal.rows_near-requires-clause-at
rows_near-requires-clause-at c = c.requires.row

pub ask-requires-clause-asked : goal.ask-requires-clause-asked
ask-requires-clause-asked c = c.requires

pub returns-clause-held : goal.returns-clause-held
returns-clause-held c = λ e.
    let s = c.args.self.now in
    part_avoids s.numbers (facts_left s.numbers s.taken) c.in_ok-rows.rows.items c.args.task.now.block.now.rows (fact_of s.numbers c.args.at)
    c.in_ok-rows.ensures
    (told_none _ c.in_ok-answer.answer _ c.is_none.ensures e (rw c.deref.ensures.value at c.in_ok-answer.ensures.exact))
