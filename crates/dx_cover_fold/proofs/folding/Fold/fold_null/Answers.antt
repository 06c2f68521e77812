use Rattle.std.proofs.Common.{◌≡◌, ◌<◌, ◌+◌, ◌-◌, ℕ, suc, None, length, get_or, arith, sym, ◌∙◌, ap}
use Rattle.std.specs.Option.{option_map}
use Rattle.dx_cover_fold.proofs.CoverFacts.{rules_are}
use Rattle.dx_model.specs.Covers.{folded, least_cover}
use Rattle.dx_cover_fold.specs.Found.{cover_of}
use Rattle.dx_cover_fold.specs.Matched.{matched_tuples}
use Rattle.dx_cover_fold.proofs.FoldFacts.{cover_place, fold_constant, fold_ends, fold_goes, least_is, none_there}
use Rattle.dx_cover_fold.proofs.folding.Fold.fold_null.Goals as goal

less_none : (n : ℕ) → suc n ≡ suc n - 0
less_none n = omega arith

one_left : (n k : ℕ) → k < n + 1 → suc n - k ≡ suc (n - k)
one_left n k h = omega arith

next_left : (n k : ℕ) → n - k ≡ suc n - (k + 1)
next_left n k = omega arith

pub loop-step-init : goal.loop-step-init
loop-step-init c = (c.requires.place, ap (λ z. folded c.args.self.now.rules.now (matched_tuples c.args.self.now.matches.now) (least_cover c.args.self.now.rules.now (matched_tuples c.args.self.now.matches.now)) z c.args.null) (less_none (length c.args.self.now.rules.now)))

pub returns-in_default : goal.returns-in_default
returns-in_default c =
    let one = rules_are c.args.self.now.matches.now ∙ c.args.self.now.one in
    let e = least_is c.args.self.now.rules.now (matched_tuples c.args.self.now.matches.now) c.args.self.now.least.items c.loop-step.now.rule c.loop-step.now.row c.index.result.now c.items.result.now c.requires.least c.loop-step.invariant.0 c.index.ensures c.items.ensures
    ∙ ap (option_map (cover_of c.args.self.now.rules.now c.loop-step.now.rule)) (none_there (get_or c.items.result.now c.loop-step.now.row None) c.in_default.not-Some) in
    sym (fold_ends c.args.self.now.rules.now (matched_tuples c.args.self.now.matches.now) one (suc (length c.args.self.now.rules.now) - c.loop-step._step) c.loop-step.now _ e c.loop-step.invariant.1)

pub value_given-requires-clause-place : goal.value_given-requires-clause-place
value_given-requires-clause-place c =
    let one = rules_are c.args.self.now.matches.now ∙ c.args.self.now.one in
    let e = least_is c.args.self.now.rules.now (matched_tuples c.args.self.now.matches.now) c.args.self.now.least.items c.loop-step.now.rule c.loop-step.now.row c.index.result.now c.items.result.now c.requires.least c.loop-step.invariant.0 c.index.ensures c.items.ensures
    ∙ ap (option_map (cover_of c.args.self.now.rules.now c.loop-step.now.rule)) c.in-Some.is in
    cover_place c.args.self.now.rules.now (matched_tuples c.args.self.now.matches.now) one c.loop-step.now.rule c.loop-step.now.row (cover_of c.args.self.now.rules.now c.loop-step.now.rule c.in-Some.found) e

pub returns-in-Const : goal.returns-in-Const
returns-in-Const c =
    let one = rules_are c.args.self.now.matches.now ∙ c.args.self.now.one in
    let e = least_is c.args.self.now.rules.now (matched_tuples c.args.self.now.matches.now) c.args.self.now.least.items c.loop-step.now.rule c.loop-step.now.row c.index.result.now c.items.result.now c.requires.least c.loop-step.invariant.0 c.index.ensures c.items.ensures
    ∙ ap (option_map (cover_of c.args.self.now.rules.now c.loop-step.now.rule)) c.in-Some.is in
    let left = one_left (length c.args.self.now.rules.now) c.loop-step._step c.loop-step-test.true in
    sym (fold_constant c.args.self.now.rules.now (matched_tuples c.args.self.now.matches.now) one (length c.args.self.now.rules.now - c.loop-step._step) c.loop-step.now (cover_of c.args.self.now.rules.now c.loop-step.now.rule c.in-Some.found) c.in-Const.text _ e
    (sym c.in_ok-text.ensures ∙ c.in-Const.is)
    (c.loop-step.invariant.1 ∙ ap (λ z. folded c.args.self.now.rules.now (matched_tuples c.args.self.now.matches.now) (least_cover c.args.self.now.rules.now (matched_tuples c.args.self.now.matches.now)) z c.loop-step.now) left))

pub loop-step-preserved : goal.loop-step-preserved
loop-step-preserved c =
    let one = rules_are c.args.self.now.matches.now ∙ c.args.self.now.one in
    let e = least_is c.args.self.now.rules.now (matched_tuples c.args.self.now.matches.now) c.args.self.now.least.items c.loop-step.now.rule c.loop-step.now.row c.index.result.now c.items.result.now c.requires.least c.loop-step.invariant.0 c.index.ensures c.items.ensures
    ∙ ap (option_map (cover_of c.args.self.now.rules.now c.loop-step.now.rule)) c.in-Some.is in
    let left = one_left (length c.args.self.now.rules.now) c.loop-step._step c.loop-step-test.true in
    let w = fold_goes c.args.self.now.rules.now (matched_tuples c.args.self.now.matches.now) one (length c.args.self.now.rules.now - c.loop-step._step) c.loop-step.now c.in-Null.next (cover_of c.args.self.now.rules.now c.loop-step.now.rule c.in-Some.found) _ e
    (sym c.in_ok-text.ensures ∙ c.in-Null.is)
    (c.loop-step.invariant.1 ∙ ap (λ z. folded c.args.self.now.rules.now (matched_tuples c.args.self.now.matches.now) (least_cover c.args.self.now.rules.now (matched_tuples c.args.self.now.matches.now)) z c.loop-step.now) left) in
    (w.0, w.1 ∙ ap (λ z. folded c.args.self.now.rules.now (matched_tuples c.args.self.now.matches.now) (least_cover c.args.self.now.rules.now (matched_tuples c.args.self.now.matches.now)) z c.in-Null.next) (next_left (length c.args.self.now.rules.now) c.loop-step._step))
