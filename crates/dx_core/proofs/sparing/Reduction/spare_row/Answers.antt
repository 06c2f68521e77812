use Rattle.std.proofs.Common.{◌∙◌, [], ◌∷◌, map, sym}
use Rattle.std.proofs.lemmas.Bool.{true≢false}
use Rattle.dx_model.proofs.Reduction.{reduct_itself}
use Rattle.dx_blocks.specs.Numbered.{fact_of}
use Rattle.dx_core.specs.Left.{facts_left}
use Rattle.dx_core.proofs.Asked.{row_left}
use Rattle.dx_core.proofs.Spared.{alone_same, known_stays, none_needed, nulls_kept, none_told, same_asked, same_avoids, same_gone, same_moves, same_others, same_reduct, some_told}
use Rattle.dx_core.proofs.sparing.Reduction.spare_row.Goals as goal

pub returns-then-has-clause-reduct : goal.returns-then-has-clause-reduct
returns-then-has-clause-reduct c = reduct_itself (facts_left c.args.self.now.numbers c.args.self.now.taken)

pub returns-then-has-clause-needed : goal.returns-then-has-clause-needed
returns-then-has-clause-needed c = λ m.
    let s = c.args.self.now in
    let l = row_left s.numbers c.len.ensures.fit s.taken c.args.at (c.requires.ready.tried.numbers.rows c.args.at c.requires.at) m in
    absurd (true≢false (sym c.if-has.true ∙ (c.has.ensures ∙ l)))

pub spare_in_small-requires : goal.spare_in_small-requires
spare_in_small-requires c = record { ready = c.requires.ready; row = c.requires.at; left = sym c.has.ensures ∙ c.if-has.false }

pub keep_nulls-requires-clause-row : goal.keep_nulls-requires-clause-row
keep_nulls-requires-clause-row c = rw c.in_ok-alone.ensures.numbers (c.requires.ready.tried.numbers.rows c.args.at c.requires.at)

pub keep_nulls-requires-clause-long : goal.keep_nulls-requires-clause-long
keep_nulls-requires-clause-long c = rw c.items-nulls.ensures c.requires.ready.rigid.long

pub ask_alone-requires : goal.ask_alone-requires
ask_alone-requires c = record { ready = c.requires.ready; row = c.requires.at; left = sym c.has.ensures ∙ c.if-has.false }

pub returns-in-None-clause-reduct : goal.returns-in-None-clause-reduct
returns-in-None-clause-reduct c =
    rw c.in_ok-alone.ensures.taken (reduct_itself (facts_left c.args.self.now.numbers c.args.self.now.taken))

pub returns-in-None-clause-needed : goal.returns-in-None-clause-needed
returns-in-None-clause-needed c =
    let s = c.args.self.now in
    let none = rw c.in-None.is at c.in_ok-alone.ensures.exact in
    rw c.in_ok-alone.ensures.taken
    (none_needed (facts_left s.numbers s.taken) (fact_of s.numbers c.args.at ∷ []) (fact_of s.numbers c.args.at) none)

pub returns-in-None-clause-known : goal.returns-in-None-clause-known
returns-in-None-clause-known c =
    let s = c.args.self.now in
    let none = rw c.in-None.is at c.in_ok-alone.ensures.exact in
    let keeps = rw (c.in_ok-alone.ensures.numbers, c.items-nulls.ensures) at c.keep_nulls.ensures in
    rw c.in_ok-alone.ensures.taken
    (keeps (facts_left s.numbers s.taken) (λ x i j.
    nulls_kept s.numbers c.len.ensures.fit c.args.at (c.requires.ready.tried.numbers.rows c.args.at c.requires.at)
    (facts_left s.numbers s.taken) none x i (c.requires.ready.tried.numbers.nulls x j)) c.requires.ready.rigid)

pub ask_all-requires-clause-asked : goal.ask_all-requires-clause-asked
ask_all-requires-clause-asked c =
    let s = c.args.self.now in
    let t = c.args.task.now in
    same_asked s.numbers c.ask_alone.new.self.numbers s.taken c.ask_alone.new.self.taken t.block.now t.known.items c.args.at
    c.in_ok-alone.ensures.numbers c.in_ok-alone.ensures.taken
    (record { ready = c.requires.ready; row = c.requires.at; left = sym c.has.ensures ∙ c.if-has.false })

pub ask_all-requires-clause-alone : goal.ask_all-requires-clause-alone
ask_all-requires-clause-alone c =
    let s = c.args.self.now in
    alone_same s.numbers c.ask_alone.new.self.numbers s.taken c.ask_alone.new.self.taken c.args.task.now.block.now.nulls (λ v. v.items) c.in_ok-alone.alone c.args.at
    c.in_ok-alone.ensures.numbers c.in_ok-alone.ensures.taken c.in_ok-alone.ensures.exact

pub returns-in-None-together-clause-reduct : goal.returns-in-None-together-clause-reduct
returns-in-None-together-clause-reduct c =
    rw (c.in_ok-together.ensures.taken, c.in_ok-alone.ensures.taken) (reduct_itself (facts_left c.args.self.now.numbers c.args.self.now.taken))

pub returns-in-None-together-clause-needed : goal.returns-in-None-together-clause-needed
returns-in-None-together-clause-needed c =
    let s = c.args.self.now in
    let none = same_avoids s.numbers c.ask_alone.new.self.numbers s.taken c.ask_alone.new.self.taken c.args.task.now.block.now.rows c.args.at
    c.in_ok-alone.ensures.numbers c.in_ok-alone.ensures.taken
    (none_told c.ask_alone.new.self.numbers _ _ _ c.args.task.now.block.now.nulls (λ v. v.items) c.in_ok-together.together c.in-None-together.is
    c.in_ok-together.ensures.exact) in
    rw (c.in_ok-together.ensures.taken, c.in_ok-alone.ensures.taken)
    (none_needed (facts_left s.numbers s.taken) (map (fact_of s.numbers) c.args.task.now.block.now.rows) (fact_of s.numbers c.args.at) none)

pub fold_block-requires-clause-block : goal.fold_block-requires-clause-block
fold_block-requires-clause-block c = rw (c.in_ok-together.ensures.numbers, c.in_ok-alone.ensures.numbers) c.requires.ready.tried

pub fold_block-requires-clause-at : goal.fold_block-requires-clause-at
fold_block-requires-clause-at c = c.requires.at

pub fold_block-requires-clause-moves : goal.fold_block-requires-clause-moves
fold_block-requires-clause-moves c =
    let s = c.args.self.now in
    let t = c.args.task.now in
    let moves = some_told c.ask_alone.new.self.numbers _ _ _ t.block.now.nulls (λ v. v.items) c.in_ok-together.together _ c.in-Some.is
    c.in_ok-together.ensures.exact in
    rw c.deref.ensures.value
    (same_moves c.ask_all.new.self.numbers c.ask_alone.new.self.numbers t.block.now.nulls _ c.ask_all.new.self.taken c.ask_alone.new.self.taken
    t.block.now.rows c.args.at (sym c.in_ok-together.ensures.numbers) (sym c.in_ok-together.ensures.taken) moves)

pub returns-in_ok-fold_block-in-Some-clause-reduct : goal.returns-in_ok-fold_block-in-Some-clause-reduct
returns-in_ok-fold_block-in-Some-clause-reduct c =
    let s = c.args.self.now in
    same_reduct s.numbers c.ask_all.new.self.numbers s.taken c.ask_all.new.self.taken c.fold_block.new.self.taken
    (c.in_ok-together.ensures.numbers ∙ c.in_ok-alone.ensures.numbers) (c.in_ok-together.ensures.taken ∙ c.in_ok-alone.ensures.taken)
    c.in_ok-fold_block-in-Some.ensures.reduct

pub returns-in_ok-fold_block-in-Some-clause-needed : goal.returns-in_ok-fold_block-in-Some-clause-needed
returns-in_ok-fold_block-in-Some-clause-needed c = λ m.
    absurd (same_gone c.args.self.now.numbers c.ask_all.new.self.numbers c.fold_block.new.self.taken c.args.at
    (c.in_ok-together.ensures.numbers ∙ c.in_ok-alone.ensures.numbers) c.in_ok-fold_block-in-Some.ensures.gone m)

pub returns-in_ok-fold_block-in-Some-clause-known : goal.returns-in_ok-fold_block-in-Some-clause-known
returns-in_ok-fold_block-in-Some-clause-known c =
    let s = c.args.self.now in
    known_stays s.numbers (facts_left s.numbers s.taken) _ c.args.task.now.block.now.nulls c.args.task.now.known.items
    (same_reduct s.numbers c.ask_all.new.self.numbers s.taken c.ask_all.new.self.taken c.fold_block.new.self.taken
    (c.in_ok-together.ensures.numbers ∙ c.in_ok-alone.ensures.numbers) (c.in_ok-together.ensures.taken ∙ c.in_ok-alone.ensures.taken)
    c.in_ok-fold_block-in-Some.ensures.reduct) c.requires.ready.rigid

pub returns-in_ok-fold_block-in-Some-clause-others : goal.returns-in_ok-fold_block-in-Some-clause-others
returns-in_ok-fold_block-in-Some-clause-others c =
    let s = c.args.self.now in
    same_others s.numbers c.ask_all.new.self.numbers c.args.task.now.block.now s.taken c.ask_all.new.self.taken c.fold_block.new.self.taken
    (c.in_ok-together.ensures.numbers ∙ c.in_ok-alone.ensures.numbers) (c.in_ok-together.ensures.taken ∙ c.in_ok-alone.ensures.taken)
    c.in_ok-fold_block-in-Some.ensures.others
