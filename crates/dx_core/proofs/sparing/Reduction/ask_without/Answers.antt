use Rattle.std.proofs.Common.{◌∙◌, Bool, List, ap}
use Rattle.dx_core.specs.Sparing.{with_back}
use Rattle.dx_core.proofs.Asked.{few_nulls}
use Rattle.dx_core.proofs.RowsAway.{out_stays, told_away}
use Rattle.dx_core.proofs.sparing.Reduction.ask_without.Goals as goal

pub atoms_of-requires-clause-few : goal.atoms_of-requires-clause-few
atoms_of-requires-clause-few c =
    rw c.items-nulls.ensures (few_nulls c.args.self.now.numbers c.len.ensures.fit c.args.task.now.block.now c.requires.ready.tried)

pub atoms_of-requires-clause-ascend : goal.atoms_of-requires-clause-ascend
atoms_of-requires-clause-ascend c = rw c.items-nulls.ensures c.requires.ready.tried.ascend

pub atoms_of-requires-clause-rows : goal.atoms_of-requires-clause-rows
atoms_of-requires-clause-rows c = rw c.items-rows.ensures c.requires.ready.tried.numbers.rows

pub solve-requires : goal.solve-requires
solve-requires c =
    rw (c.take_left-2.ensures.numbers, c.take_left.ensures.numbers, c.deref.ensures.value, c.deref-2.ensures.value, c.requires.ready.rigid.long)
    (rw c.items-nulls.ensures at c.in_ok-atoms.ensures.fit)

pub put_left-requires : goal.put_left-requires
put_left-requires c = rw c.take_left-2.ensures.numbers c.in_ok-gone.ensures.there

pub put_left-requires-2 : goal.put_left-requires-2
put_left-requires-2 c = rw (c.put_left.ensures.numbers, c.take_left-2.ensures.numbers, c.take_left.ensures.numbers) c.in_ok-own.ensures.there

pub returns-clause-numbers : goal.returns-clause-numbers
returns-clause-numbers c =
    c.put_left-2.ensures.numbers ∙ (c.put_left.ensures.numbers ∙ (c.take_left-2.ensures.numbers ∙ c.take_left.ensures.numbers))

pub returns-clause-taken : goal.returns-clause-taken
returns-clause-taken c =
    c.put_left-2.ensures.back
    ∙ (ap (λ (m : List (List Bool)). with_back m c.in_ok-own.own.items) (c.put_left.ensures.back ∙ c.in_ok-gone.ensures.back)
    ∙ c.in_ok-own.ensures.back)

pub returns-clause-long : goal.returns-clause-long
returns-clause-long c = rw (c.deref-2.ensures.value, c.requires.ready.rigid.long) at c.in_ok-answer.ensures.long

pub returns-clause-moves : goal.returns-clause-moves
returns-clause-moves c =
    let s = c.args.self.now in
    let at = c.args.at in
    let own = rw c.items-rows.ensures at c.in_ok-own.ensures.out in
    let out = out_stays c.take_left.new.self.taken c.take_left-2.new.self.taken c.in_ok-gone.ensures.others at.table at.place
    (own at c.requires.row (c.requires.ready.tried.numbers.rows at c.requires.row)) in
    told_away s.numbers c.len.ensures.fit c.args.task.now.block.now c.requires.ready.tried s.taken s.marks
    c.in_ok-atoms.atoms.items c.args.task.now.known.items at c.requires.row
    (rw (c.items-nulls.ensures, c.items-rows.ensures) at c.in_ok-atoms.ensures.atoms) c.requires.ready.rigid
    c.take_left-2.new.self.taken out (λ u q e. c.in_ok-own.ensures.others u q (c.in_ok-gone.ensures.others u q e))
    _ (λ v. v.items) c.in_ok-answer.answer c.requires.ready.rigid.long
    (rw (c.take_left-2.ensures.numbers, c.take_left.ensures.numbers, c.deref.ensures.value, c.deref-2.ensures.value) at c.in_ok-answer.ensures.exact)
    (rw c.deref-2.ensures.value at c.in_ok-answer.ensures.long)
