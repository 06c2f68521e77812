use Rattle.std.proofs.Common.{◌∙◌, ap, length, sym}
use Rattle.std.proofs.lemmas.List.{length-map}
use Rattle.std.proofs.lemmas.Result.{IfOk-weaker}
use Rattle.dx_model.specs.declared.matches.Places.{Places}
use Rattle.dx_model.specs.Tables.{IsInstance}
use Rattle.dx_model.proofs.RowsExist.{rows_of_all}
use Rattle.dx_schema.specs.Tables.{model_tables}
use Rattle.dx_instance.specs.Stored.{facts}
use Rattle.dx_instance.proofs.LawFacts.{facts_fit}
use Rattle.dx_schema.proofs.ModelWidths.{model_widths}
use Rattle.dx_judge.specs.Parts.{IsSolutionVerdict}
use Rattle.dx_judge.specs.declared.verdict.Verdict.TheVariants as verdicts
use Rattle.dx_judge.specs.Verdicts.{IsVerdict}
use Rattle.dx_judge.proofs.Shown.{as_given, is_reason, is_solution, judged, received, solution_verdict}
use Rattle.dx_judge.proofs.Said.{are_long}
use Rattle.dx_judge.proofs.judging.judge_made.Goals as goal

pub reason-requires-clause-widths : goal.reason-requires-clause-widths
reason-requires-clause-widths c = c.in_ok-sorted.ensures.widths_stay ∙ c.requires.given

pub reason-requires-clause-conclusions : goal.reason-requires-clause-conclusions
reason-requires-clause-conclusions c = rw (c.in_ok-sorted.ensures.widths_stay ∙ c.requires.given) c.requires.rules.conclusions

pub reason-requires-clause-matches : goal.reason-requires-clause-matches
reason-requires-clause-matches c =
    let k = c.requires.made.are in
    record {
      many = sym (length-map c.in_ok-matches.matches.rules (λ (p : Places). p.tuples)) ∙ ap length c.in_ok-matches.ensures
          ∙ (rows_of_all k.0 c.args.rules.now k.1 c.args.made.matches c.args.made.matches k.2 k.2).1;
      long = rw c.in_ok-matches.ensures (are_long k.0 c.args.rules.now k.1 c.args.made.matches k.2);
      few_rules = c.requires.rules.few;
      few = rw c.in_ok-matches.ensures c.requires.made.few;
    }

pub judge_solution-requires-clause-widths : goal.judge_solution-requires-clause-widths
judge_solution-requires-clause-widths c = c.requires.made.widths_are

pub judge_solution-requires-clause-given : goal.judge_solution-requires-clause-given
judge_solution-requires-clause-given c = c.in_ok-sorted.ensures.widths_stay ∙ c.requires.given

pub judge_solution-requires-clause-received : goal.judge_solution-requires-clause-received
judge_solution-requires-clause-received c =
    let k = c.requires.made.are in
    let schema = model_tables c.args.target.now in
    let S = c.in_ok-sorted.sorted in
    let fits : IsInstance schema (facts S) =
    facts_fit schema S (c.in_ok-sorted.ensures.widths_stay ∙ c.requires.given ∙ sym (model_widths c.args.target.now)) c.tables.ensures.rows in
    let none = rw (c.in_default.is, c.in_ok-matches.ensures) at c.in_ok-why.ensures in
    received k.0 c.args.rules.now schema k.1 c.args.made.matches k.2 S 0 c.args.made.instance c.requires.made.facts_are.0
    (is_solution k.0 c.args.rules.now schema k.1 c.args.made.matches k.2 S 0 fits none)

pub returns-in-Some : goal.returns-in-Some
returns-in-Some c = λ convert I limit are.
    let schema = model_tables c.args.target.now in
    let S = c.in_ok-sorted.sorted in
    let some = rw (c.in-Some.is, c.in_ok-matches.ensures) at c.in_ok-why.ensures in
    as_given convert c.args.rules.now schema I c.args.given.now S limit (verdicts.NotSolution c.in-Some.why) c.in_ok-sorted.ensures
    (is_reason convert c.args.rules.now schema I c.args.made.matches are S limit c.in_ok-sorted.ensures.ascend c.in-Some.why some)

pub returns : goal.returns
returns c = λ convert I limit are.
    let schema = model_tables c.args.target.now in
    let S = c.in_ok-sorted.sorted in
    let fits : IsInstance schema (facts S) =
    facts_fit schema S (c.in_ok-sorted.ensures.widths_stay ∙ c.requires.given ∙ sym (model_widths c.args.target.now)) c.tables.ensures.rows in
    let none = rw (c.in_default.is, c.in_ok-matches.ensures) at c.in_ok-why.ensures in
    IfOk-weaker c.judge_solution.result (IsSolutionVerdict schema c.args.made.instance S)
    (IsVerdict convert (judged c.args.rules.now schema I c.args.given.now limit))
    (λ v k. as_given convert c.args.rules.now schema I c.args.given.now S limit v c.in_ok-sorted.ensures
    (solution_verdict convert c.args.rules.now schema I c.args.made.matches are S limit c.args.made.instance c.requires.made.facts_are c.requires.rules.closed
    (is_solution convert c.args.rules.now schema I c.args.made.matches are S limit fits none) v k)) c.judge_solution.ensures
