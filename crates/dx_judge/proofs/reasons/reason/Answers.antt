use Rattle.std.proofs.lemmas.Result.{IfOk-weaker}
use Rattle.dx_schema.specs.Tables.{model_tables}
use Rattle.dx_model.specs.Matches.{rows_of_matches}
use Rattle.dx_judge.specs.Open.{IsFirstReason, IsKeyOrLink}
use Rattle.dx_judge.proofs.Said.{no_rule_fails}
use Rattle.dx_judge.proofs.reasons.reason.Goals as goal

pub returns : goal.returns
returns c =
    let R = c.args.rules.now in
    let rows = rows_of_matches c.args.matches.now in
    let schema = model_tables c.args.target.now in
    let I = c.args.given.now in
    IfOk-weaker c.key_or_link.result (IsKeyOrLink schema I) (IsFirstReason R rows schema I)
    (λ o k. no_rule_fails R rows schema I o (rw (c.in_default.is, c.in_ok-turned.ensures.plain) at c.in_ok-open.ensures) k) c.key_or_link.ensures
