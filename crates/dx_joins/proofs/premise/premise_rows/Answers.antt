use Rattle.std.proofs.Common.{◌≡◌, ◌∙◌, ◌-◌, ◌+◌, ◌++◌, ◌∷◌, [], ◌<◌, sym, ap, subst, arith, List, ℕ, length, take, drop, get_or}
use Rattle.std.proofs.lemmas.List.{take_more, take_all, drop_more, length-drop}
use Rattle.dx_base.proofs.Members.{item_in}
use Rattle.dx_joins.specs.declared.pattern.Pattern.{Pattern}
use Rattle.dx_joins.specs.Planning.{HoldsPartialMatches, StepsTo}
use Rattle.dx_joins.proofs.Carrying.{carry_start, last_known, last_told, told_from, some_length}
use Rattle.dx_joins.proofs.Patterns.{split_length}
use Rattle.dx_joins.proofs.premise.premise_rows.Goals as goal

pub loop-i-init : goal.loop-i-init
loop-i-init c =
    let e = c.in_ok-partial.ensures in
    carry_start c.args.marked.now.source.now.tables c.args.marked.now.marks.now c.args.patterns.now c.args.shown.now c.in_ok-partial.partial e.variables e.rows e.width

pub next-requires-clause-partial : goal.next-requires-clause-partial
next-requires-clause-partial c = record { once = c.loop-i.invariant.once; wide = c.loop-i.invariant.wide }

pub next-requires-clause-few : goal.next-requires-clause-few
next-requires-clause-few c =
    let r = split_length c.args.patterns.now c.loop-i.i c.index-patterns-i.result (omega (arith, c.loop-i-test.true)) c.index-patterns-i.is in
    omega (arith, r, c.loop-i.invariant.few, c.requires.joinable.few)

pub next-requires-clause-fits : goal.next-requires-clause-fits
next-requires-clause-fits c = c.requires.joinable.fit _ (item_in c.args.patterns.now c.loop-i.i c.index-patterns-i.result (omega (arith, c.loop-i-test.true)) c.index-patterns-i.is)

pub loop-i-preserved : goal.loop-i-preserved
loop-i-preserved c =
    let ps = c.args.patterns.now in
    let i = c.loop-i.i in
    let p = c.index-patterns-i.result in
    let h : i < length ps = omega (arith, c.loop-i-test.true) in
    let later : drop i ps ≡ p ∷ drop (i + 1) ps = drop_more ps i p h ∙ ap (λ (a : Pattern). a ∷ drop (i + 1) ps) (sym c.index-patterns-i.is) in
    let first : take (i + 1) ps ≡ take i ps ++ p ∷ [] = take_more ps i p h ∙ ap (λ (a : Pattern). take i ps ++ a ∷ []) (sym c.index-patterns-i.is) in
    let inv : HoldsPartialMatches c.args.marked.now.source.now.tables c.args.marked.now.marks.now (take i ps) (p ∷ drop (i + 1) ps) c.args.shown.now c.loop-i.partial = rw (← later) c.loop-i.invariant in
    let rest : take (length ps - (i + 1)) (drop (i + 1) ps) ≡ drop (i + 1) ps = take_all (length ps - (i + 1)) (drop (i + 1) ps) (omega (arith, length-drop (i + 1) ps)) in
    let inv2 : HoldsPartialMatches c.args.marked.now.source.now.tables c.args.marked.now.marks.now (take i ps) (p ∷ take (length ps - (i + 1)) (drop (i + 1) ps)) c.args.shown.now c.loop-i.partial = rw rest inv in
    let next = c.in_ok-partial-2.ensures (take i ps) inv2 in
    rw first (subst (λ (l : List Pattern). HoldsPartialMatches c.args.marked.now.source.now.tables c.args.marked.now.marks.now (take i ps ++ p ∷ []) l c.args.shown.now c.in_ok-partial-2.partial) rest next)

pub step-requires-clause-partial : goal.step-requires-clause-partial
step-requires-clause-partial c = record { once = c.loop-i.invariant.once; wide = c.loop-i.invariant.wide }

pub step-requires-clause-kept : goal.step-requires-clause-kept
step-requires-clause-kept c =
    let ps = c.args.patterns.now in
    let i = c.loop-i.i in
    let n = some_length ps c.requires.some in
    let e : length ps - 1 ≡ i = omega (arith, c.loop-i-test.false, c.loop-i.auto.i-end) in
    let is = c.index-patterns-last.is ∙ ap (λ (k : ℕ). get_or ps k c.index-patterns-last.result) e in
    record {
      known = last_known c.args.marked.now.source.now.tables c.args.marked.now.marks.now ps i c.index-patterns-last.result c.args.shown.now c.loop-i.partial (omega (arith, e, n)) (omega (arith, e)) is c.loop-i.invariant c.requires.shown.known;
      few = c.requires.shown.few;
    }

pub step-requires-clause-fits : goal.step-requires-clause-fits
step-requires-clause-fits c =
    let ps = c.args.patterns.now in
    let n = some_length ps c.requires.some in
    c.requires.joinable.fit _ (item_in ps (length ps - 1) c.index-patterns-last.result (omega (arith, n)) c.index-patterns-last.is)

pub returns-clause-rows : goal.returns-clause-rows
returns-clause-rows c =
    let ps = c.args.patterns.now in
    let i = c.loop-i.i in
    let n = some_length ps c.requires.some in
    let e : length ps - 1 ≡ i = omega (arith, c.loop-i-test.false, c.loop-i.auto.i-end) in
    let is = c.index-patterns-last.is ∙ ap (λ (k : ℕ). get_or ps k c.index-patterns-last.result) e in
    told_from c.args.marked.now.source.now.tables c.args.marked.now.marks.now ps c.args.shown.now c.args.most (StepsTo c.args.marked.now.source.now.tables c.args.marked.now.marks.now c.loop-i.partial c.index-patterns-last.result c.args.shown.now) c.step.result
    (last_told c.args.marked.now.source.now.tables c.args.marked.now.marks.now ps i c.index-patterns-last.result c.args.shown.now c.loop-i.partial (omega (arith, e, n)) (omega (arith, e)) is c.loop-i.invariant c.requires.shown.known) c.step.ensures.rows

pub returns-clause-within : goal.returns-clause-within
returns-clause-within c = c.step.ensures.within
