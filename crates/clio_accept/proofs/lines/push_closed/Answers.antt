use Rattle.std.proofs.Common.{◌∙◌, ◌∷◌, ◌++◌, [], length, rules, ap, append_assoc}
use Rattle.std.proofs.lemmas.Iterator.Adapters.{YieldsList-from_vec}
use Rattle.std.proofs.lemmas.Iterator.Consumers.{YieldsList-end, YieldsList-turn}
use Rattle.std.proofs.lemmas.Result.{err_from_is_err_and}
use Rattle.dx_base.specs.Members.{Each}
use Rattle.dx_base.proofs.Loops.{each_item}
use Rattle.dx_model.specs.declared.rules.Rule.{Rule}
use Rattle.dx_model.specs.Fitting.{AreNumbered}
use Rattle.dx_model.specs.Solutions.{AtomFits}
use Rattle.dx_schema.specs.Tables.{model_tables}
use Rattle.clio_accept.proofs.Closed.{closings_push, all_closed, one_wide}
use Rattle.clio_accept.proofs.lines.push_closed.Goals as goal

pub closed-requires-clause-fits : goal.closed-requires-clause-fits
closed-requires-clause-fits c =
    let t = YieldsList-turn (YieldsList-from_vec c.args.written.items (search rules) (search rules)) c.loop-rule.yielded c.loop-rule.rule-iterator c.loop-rule.yielded_by c.next.result c.next.new.self c.in-Some.rule c.in-Some.is c.next.ensures.steps in
    each_item (λ (d : Rule). Each d.conclusion (AtomFits (model_tables c.args.target.now))) c.args.written.items (length c.loop-rule.yielded) c.in-Some.rule t.0 t.1 c.requires.fits

pub closed-requires-clause-numbered : goal.closed-requires-clause-numbered
closed-requires-clause-numbered c =
    let t = YieldsList-turn (YieldsList-from_vec c.args.written.items (search rules) (search rules)) c.loop-rule.yielded c.loop-rule.rule-iterator c.loop-rule.yielded_by c.next.result c.next.new.self c.in-Some.rule c.in-Some.is c.next.ensures.steps in
    each_item (λ (d : Rule). AreNumbered d.conclusion) c.args.written.items (length c.loop-rule.yielded) c.in-Some.rule t.0 t.1 c.requires.numbered

pub loop-rule-preserved : goal.loop-rule-preserved
loop-rule-preserved c =
    let E = c.loop-rule.invariant.0 in
    let e = c.in_ok-closed.field-0 in (
      E ++ e ∷ [],
      closings_push (model_tables c.args.target.now) c.loop-rule.yielded E c.in-Some.rule e c.loop-rule.invariant.1 c.in_ok-closed.ensures,
      c.in_ok-push.ensures.items ∙ ap (λ xs. xs ++ e ∷ []) c.loop-rule.invariant.2 ∙ append_assoc c.args.rules.now.items E (e ∷ []),
    )

pub returns : goal.returns
returns c =
    let end = YieldsList-end (YieldsList-from_vec c.args.written.items (search rules) (search rules)) c.loop-rule.yielded c.loop-rule.rule-iterator c.loop-rule.yielded_by c.next.result c.next.new.self c.in-None.is c.next.ensures.steps in
    record { closings = (c.loop-rule.invariant.0, all_closed (model_tables c.args.target.now) c.loop-rule.yielded c.args.written.items c.loop-rule.invariant.0 c.loop-rule.invariant.1 end.0, c.loop-rule.invariant.2); wide = tt }

pub returns-in_err-closed : goal.returns-in_err-closed
returns-in_err-closed c =
    let t = YieldsList-turn (YieldsList-from_vec c.args.written.items (search rules) (search rules)) c.loop-rule.yielded c.loop-rule.rule-iterator c.loop-rule.yielded_by c.next.result c.next.new.self c.in-Some.rule c.in-Some.is c.next.ensures.steps in
    let p = err_from_is_err_and c.from_residual.result c.from_residual.ensures.1 in
    rw (p.1, p.2) (record { closings = tt; wide = one_wide (model_tables c.args.target.now) c.args.written.items (length c.loop-rule.yielded) c.in-Some.rule _ t.0 t.1 c.in_err-closed.ensures })
