use Rattle.std.proofs.Common.{◌∙◌, Bool, List, ap, false}
use Rattle.dx_solver.specs.Marks.{with_mark}
use Rattle.dx_core.proofs.Asked.{back_again, few_nulls, mark_place, mark_table, told}
use Rattle.dx_core.proofs.sparing.Reduction.ask.Goals as goal

pub atoms_of-requires-clause-few : goal.atoms_of-requires-clause-few
atoms_of-requires-clause-few c =
    rw c.items-nulls.ensures (few_nulls c.args.self.now.numbers c.len.ensures.fit c.args.task.now.block.now c.requires.asked.ready.tried)

pub take_out-requires-clause-table : goal.take_out-requires-clause-table
take_out-requires-clause-table c =
    let s = c.args.self.now in
    mark_table s.numbers c.len.ensures.fit s.taken c.args.at s.marks (c.requires.asked.ready.tried.numbers.rows c.args.at c.requires.asked.row)

pub take_out-requires-clause-place : goal.take_out-requires-clause-place
take_out-requires-clause-place c =
    let s = c.args.self.now in
    mark_place s.numbers c.len.ensures.fit s.taken c.args.at s.marks (c.requires.asked.ready.tried.numbers.rows c.args.at c.requires.asked.row)

pub atoms_of-requires-clause-ascend : goal.atoms_of-requires-clause-ascend
atoms_of-requires-clause-ascend c = rw c.items-nulls.ensures c.requires.asked.ready.tried.ascend

pub atoms_of-requires-clause-rows : goal.atoms_of-requires-clause-rows
atoms_of-requires-clause-rows c = λ r m. c.requires.asked.ready.tried.numbers.rows r (c.requires.rows r m)

pub solve-requires : goal.solve-requires
solve-requires c =
    rw (c.deref.ensures.value, c.deref-2.ensures.value, c.requires.asked.ready.rigid.long) (rw c.items-nulls.ensures at c.in_ok-atoms.ensures.fit)

pub returns-clause-long : goal.returns-clause-long
returns-clause-long c = rw (c.deref-2.ensures.value, c.requires.asked.ready.rigid.long) at c.in_ok-answer.ensures.long

pub returns-clause-taken : goal.returns-clause-taken
returns-clause-taken c =
    let s = c.args.self.now in
    c.put_back.ensures
    ∙ (ap (λ (o : List (List Bool)). with_mark o c.args.at.table c.args.at.place false) c.take_out.ensures
    ∙ back_again s.numbers c.len.ensures.fit s.taken c.args.at s.marks (c.requires.asked.ready.tried.numbers.rows c.args.at c.requires.asked.row)
    c.requires.asked.left)

pub returns-clause-exact : goal.returns-clause-exact
returns-clause-exact c =
    let s = c.args.self.now in
    told s.numbers c.len.ensures.fit c.args.task.now.block.now c.requires.asked.ready.tried s.taken s.marks c.args.rows.now c.requires.rows
    c.in_ok-atoms.atoms.items c.args.task.now.known.items c.args.at c.requires.asked.row (rw c.items-nulls.ensures at c.in_ok-atoms.ensures.atoms)
    c.requires.asked.ready.rigid (λ v. v.items) c.in_ok-answer.answer c.requires.asked.ready.rigid.long
    (rw (c.take_out.ensures, c.deref.ensures.value, c.deref-2.ensures.value) at c.in_ok-answer.ensures.exact)
    (rw c.deref-2.ensures.value at c.in_ok-answer.ensures.long)
