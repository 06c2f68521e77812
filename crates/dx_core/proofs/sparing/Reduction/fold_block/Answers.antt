use Rattle.dx_base.proofs.Members.{in_map}
use Rattle.dx_blocks.specs.Numbered.{fact_of}
use Rattle.dx_core.specs.Left.{shown_by}
use Rattle.dx_core.proofs.Asked.{distinct_rows, mark_place, mark_table, row_within}
use Rattle.dx_core.proofs.Folded.{fold_gone, folded, images_there}
use Rattle.dx_core.proofs.Marked.{marked_out}
use Rattle.dx_core.proofs.Spared.{one_less, others_left}
use Rattle.dx_core.proofs.sparing.Reduction.fold_block.Goals as goal

pub take_out-requires-clause-table : goal.take_out-requires-clause-table
take_out-requires-clause-table c =
    let s = c.args.self.now in
    mark_table s.numbers c.len.ensures.fit s.taken c.args.at s.marks (c.requires.block.numbers.rows c.args.at c.requires.at)

pub take_out-requires-clause-place : goal.take_out-requires-clause-place
take_out-requires-clause-place c =
    let s = c.args.self.now in
    mark_place s.numbers c.len.ensures.fit s.taken c.args.at s.marks (c.requires.block.numbers.rows c.args.at c.requires.at)

pub returns-in-None-clause-reduct : goal.returns-in-None-clause-reduct
returns-in-None-clause-reduct c =
    let s = c.args.self.now in
    rw c.take_out.ensures (one_less s.numbers c.len.ensures.fit c.args.moved.now.block.now c.requires.block s.taken s.marks c.args.at c.requires.at
    c.args.moved.now.answer.now c.requires.moves)

pub returns-in-None-clause-gone : goal.returns-in-None-clause-gone
returns-in-None-clause-gone c =
    let s = c.args.self.now in
    let at = c.args.at in
    let w = row_within s.numbers c.len.ensures.fit at (c.requires.block.numbers.rows at c.requires.at) in
    rw c.take_out.ensures
    (λ m. marked_out (shown_by s.numbers) s.taken at.table at.place s.marks w.0 w.1 (distinct_rows s.numbers c.len.ensures.fit) m)

pub returns-in-None-clause-others : goal.returns-in-None-clause-others
returns-in-None-clause-others c =
    let s = c.args.self.now in
    rw c.take_out.ensures
    (others_left s.numbers c.len.ensures.fit c.args.moved.now.block.now c.requires.block s.taken s.marks c.args.at c.requires.at)

pub take_all-requires : goal.take_all-requires
take_all-requires c = rw c.items.ensures c.requires.block.numbers.rows

pub put_all-requires : goal.put_all-requires
put_all-requires c =
    let s = c.args.self.now in
    let are = rw c.in-Some.is at c.in_ok-images.ensures in
    rw (c.take_all.ensures.numbers, c.deref.ensures.value)
    (images_there s.numbers c.len.ensures.fit c.args.moved.now.block.now c.requires.block c.args.moved.now.answer.now s.taken c.args.at
    c.requires.moves c.in-Some.rows.items are)

pub returns-in-Some-clause-reduct : goal.returns-in-Some-clause-reduct
returns-in-Some-clause-reduct c =
    let s = c.args.self.now in
    let b = c.args.moved.now.block.now in
    let xs = c.args.moved.now.answer.now in
    let are = rw c.in-Some.is at c.in_ok-images.ensures in
    let e = c.take_all.ensures.numbers in
    let others = rw c.items.ensures at c.take_all.ensures.others in
    let more = rw e at c.put_all.ensures.more in
    let there = rw (e, c.deref.ensures.value) at c.put_all.ensures.there in
    let only = rw (e, c.deref.ensures.value) at c.put_all.ensures.only in
    folded s.numbers c.len.ensures.fit b c.requires.block xs s.taken c.args.at c.requires.moves c.in-Some.rows.items are
    c.take_all.new.self.taken c.put_all.new.self.taken c.take_all.ensures.less others more there only

pub returns-in-Some-clause-gone : goal.returns-in-Some-clause-gone
returns-in-Some-clause-gone c =
    let s = c.args.self.now in
    let b = c.args.moved.now.block.now in
    let xs = c.args.moved.now.answer.now in
    let are = rw c.in-Some.is at c.in_ok-images.ensures in
    let e = c.take_all.ensures.numbers in
    let others = rw c.items.ensures at c.take_all.ensures.others in
    let more = rw e at c.put_all.ensures.more in
    let there = rw (e, c.deref.ensures.value) at c.put_all.ensures.there in
    let only = rw (e, c.deref.ensures.value) at c.put_all.ensures.only in
    let gone = rw c.items.ensures at c.take_all.ensures.gone in
    fold_gone s.numbers c.len.ensures.fit b c.requires.block xs s.taken c.args.at c.requires.moves c.in-Some.rows.items are
    c.take_all.new.self.taken c.put_all.new.self.taken c.take_all.ensures.less others more there only
    (gone (fact_of s.numbers c.args.at) (in_map (fact_of s.numbers) c.requires.at))

pub returns-in-Some-clause-others : goal.returns-in-Some-clause-others
returns-in-Some-clause-others c =
    let others = rw c.items.ensures at c.take_all.ensures.others in
    let more = rw c.take_all.ensures.numbers at c.put_all.ensures.more in
    λ f m k. more f (others f m k)
