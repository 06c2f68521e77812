use Rattle.std.proofs.Common.{map, sym}
use Rattle.dx_model.proofs.Reduction.{reduct_itself}
use Rattle.dx_blocks.specs.Numbered.{fact_of}
use Rattle.dx_core.specs.Left.{facts_left}
use Rattle.dx_core.proofs.Spared.{known_stays, none_needed, none_told, same_gone, same_moves, same_others, same_reduct, some_told}
use Rattle.dx_core.proofs.sparing.Reduction.spare_in_small.Goals as goal

pub returns-in-None-clause-reduct : goal.returns-in-None-clause-reduct
returns-in-None-clause-reduct c = rw c.in_ok-together.ensures.taken (reduct_itself (facts_left c.args.self.now.numbers c.args.self.now.taken))

pub returns-in-None-clause-needed : goal.returns-in-None-clause-needed
returns-in-None-clause-needed c =
    let s = c.args.self.now in
    let none = none_told s.numbers _ _ _ c.args.task.now.block.now.nulls (λ v. v.items) c.in_ok-together.together c.in-None.is
    (rw c.items-rows.ensures at c.in_ok-together.ensures.exact) in
    rw c.in_ok-together.ensures.taken
    (none_needed (facts_left s.numbers s.taken) (map (fact_of s.numbers) c.args.task.now.block.now.rows) (fact_of s.numbers c.args.at) none)

pub ask-requires-clause-asked : goal.ask-requires-clause-asked
ask-requires-clause-asked c = c.requires

pub fold_block-requires-clause-block : goal.fold_block-requires-clause-block
fold_block-requires-clause-block c = rw c.in_ok-together.ensures.numbers c.requires.ready.tried

pub fold_block-requires-clause-at : goal.fold_block-requires-clause-at
fold_block-requires-clause-at c = c.requires.row

pub fold_block-requires-clause-moves : goal.fold_block-requires-clause-moves
fold_block-requires-clause-moves c =
    let s = c.args.self.now in
    let moves = some_told s.numbers _ _ _ c.args.task.now.block.now.nulls (λ v. v.items) c.in_ok-together.together _ c.in-Some.is
    (rw c.items-rows.ensures at c.in_ok-together.ensures.exact) in
    rw c.deref.ensures.value
    (same_moves c.ask.new.self.numbers s.numbers c.args.task.now.block.now.nulls _ c.ask.new.self.taken s.taken c.args.task.now.block.now.rows c.args.at
    (sym c.in_ok-together.ensures.numbers) (sym c.in_ok-together.ensures.taken) moves)

pub returns-in_ok-fold_block-in-Some-clause-reduct : goal.returns-in_ok-fold_block-in-Some-clause-reduct
returns-in_ok-fold_block-in-Some-clause-reduct c =
    let s = c.args.self.now in
    same_reduct s.numbers c.ask.new.self.numbers s.taken c.ask.new.self.taken c.fold_block.new.self.taken c.in_ok-together.ensures.numbers
    c.in_ok-together.ensures.taken c.in_ok-fold_block-in-Some.ensures.reduct

pub returns-in_ok-fold_block-in-Some-clause-needed : goal.returns-in_ok-fold_block-in-Some-clause-needed
returns-in_ok-fold_block-in-Some-clause-needed c = λ m.
    absurd (same_gone c.args.self.now.numbers c.ask.new.self.numbers c.fold_block.new.self.taken c.args.at c.in_ok-together.ensures.numbers
    c.in_ok-fold_block-in-Some.ensures.gone m)

pub returns-in_ok-fold_block-in-Some-clause-known : goal.returns-in_ok-fold_block-in-Some-clause-known
returns-in_ok-fold_block-in-Some-clause-known c =
    let s = c.args.self.now in
    known_stays s.numbers (facts_left s.numbers s.taken) _ c.args.task.now.block.now.nulls c.args.task.now.known.items
    (same_reduct s.numbers c.ask.new.self.numbers s.taken c.ask.new.self.taken c.fold_block.new.self.taken c.in_ok-together.ensures.numbers
    c.in_ok-together.ensures.taken c.in_ok-fold_block-in-Some.ensures.reduct) c.requires.ready.rigid

pub returns-in_ok-fold_block-in-Some-clause-others : goal.returns-in_ok-fold_block-in-Some-clause-others
returns-in_ok-fold_block-in-Some-clause-others c =
    let s = c.args.self.now in
    same_others s.numbers c.ask.new.self.numbers c.args.task.now.block.now s.taken c.ask.new.self.taken c.fold_block.new.self.taken
    c.in_ok-together.ensures.numbers c.in_ok-together.ensures.taken c.in_ok-fold_block-in-Some.ensures.others
