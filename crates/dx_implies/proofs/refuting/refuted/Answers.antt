use Rattle.std.proofs.Common.{[], ◌∙◌, List, refl, subst, sym}
use Rattle.std.proofs.lemmas.Bool.{true≢false}
use Rattle.std.proofs.lemmas.Result.{err_from_is_err_and}
use Rattle.dx_base.specs.Members.{here, there}
use Rattle.dx_model.specs.declared.rules.Rule.{Rule}
use Rattle.dx_model.specs.Following.{Follows}
use Rattle.dx_implies.specs.Frozen.{IsFrozenRefusal, PassesFrozen}
use Rattle.dx_implies.proofs.Plain.{all_underived}
use Rattle.dx_implies.proofs.Shown.{all_fit, clean_of, fits_of, made_refused, not_following, plain_of}
use Rattle.dx_implies.proofs.refuting.refuted.Goals as goal

pub frozen_with-requires-clause-rule : goal.frozen_with-requires-clause-rule
frozen_with-requires-clause-rule c = (c.requires.rules c.args.rule.now (here refl)).fits.rule

pub frozen_with-requires-clause-premise : goal.frozen_with-requires-clause-premise
frozen_with-requires-clause-premise c = (c.requires.rules c.args.rule.now (here refl)).fits.premise

pub follows-requires-clause-rules : goal.follows-requires-clause-rules
follows-requires-clause-rules c = λ d m. record { fits = (c.requires.rules d m).fits; clean = (c.requires.rules d m).clean }

pub follows-requires-clause-plain : goal.follows-requires-clause-plain
follows-requires-clause-plain c = (c.requires.rules c.args.rule.now (here refl)).plain

pub returns-in_err-follows-clause-refused : goal.returns-in_err-follows-clause-refused
returns-in_err-follows-clause-refused c =
    let e = err_from_is_err_and c.from_residual.result c.from_residual.ensures.1 in
    rw (e.1, e.2) (subst (λ (U : List Rule). IsFrozenRefusal c.args.between.now.limit (PassesFrozen c.args.between.now.limit U c.args.rule.now) c.in_err-follows.field-0.0)
    (all_underived c.args.others.now (λ r m. (c.requires.rules r (there m)).plain)) c.in_err-follows.ensures.refused)

pub returns-then-branch-clause-follows : goal.returns-then-branch-clause-follows
returns-then-branch-clause-follows c = λ convert.
    subst (λ (U : List Rule). Follows convert U c.args.rule.now) (all_underived c.args.others.now (λ r m. (c.requires.rules r (there m)).plain))
    ((c.in_ok-follows.ensures.follows convert).0 c.if-branch.true)

pub returns-then-branch-clause-within : goal.returns-then-branch-clause-within
returns-then-branch-clause-within c =
    subst (λ (U : List Rule). ¬ (PassesFrozen c.args.between.now.limit U c.args.rule.now)) (all_underived c.args.others.now (λ r m. (c.requires.rules r (there m)).plain)) c.in_ok-follows.ensures.within

pub made_of-requires-clause-rules : goal.made_of-requires-clause-rules
made_of-requires-clause-rules c =
    all_fit c.args.between.now c.args.others.now c.args.rule.now c.in_ok-premise.premise c.requires.rules c.in_ok-premise.ensures.widths

pub returns-in-Ok-clause-refuted : goal.returns-in-Ok-clause-refuted
returns-in-Ok-clause-refuted c =
    not_following (λ _ _. []) c.args.between.now.source.now c.args.between.now.target.now c.args.between.now.prefix.now c.args.others.now c.args.rule.now c.in_ok-premise.premise (fits_of c.requires.rules) (plain_of c.requires.rules) (clean_of c.requires.rules) c.in_ok-premise.ensures.facts
    c.in-Ok.made.matches (record { source = c.in_ok-premise.premise; target = c.in-Ok.made.instance }) refl c.in-Ok.ensures.matches c.in-Ok.ensures.facts
    c.in_ok-premise.ensures.widths c.in-Ok.ensures.widths
    (λ f.
    let all = subst (λ (U : List Rule). Follows (λ _ _. []) U c.args.rule.now) (sym (all_underived c.args.others.now (λ r m. (c.requires.rules r (there m)).plain))) f in
    true≢false (sym ((c.in_ok-follows.ensures.follows (λ _ _. [])).1 all) ∙ c.if-branch.false))

pub returns-in-Ok-clause-within : goal.returns-in-Ok-clause-within
returns-in-Ok-clause-within c =
    subst (λ (U : List Rule). ¬ (PassesFrozen c.args.between.now.limit U c.args.rule.now)) (all_underived c.args.others.now (λ r m. (c.requires.rules r (there m)).plain)) c.in_ok-follows.ensures.within

pub returns-in-Err-clause-refused : goal.returns-in-Err-clause-refused
returns-in-Err-clause-refused c =
    made_refused (λ _ _. []) c.args.between.now.source.now c.args.between.now.target.now c.args.between.now.prefix.now c.args.others.now c.args.rule.now c.in_ok-premise.premise (fits_of c.requires.rules) (plain_of c.requires.rules) (clean_of c.requires.rules) c.in_ok-premise.ensures.facts
    c.args.between.now.limit c.in-Err.fault c.told_as_frozen.result c.in-Err.ensures.refused c.told_as_frozen.ensures
