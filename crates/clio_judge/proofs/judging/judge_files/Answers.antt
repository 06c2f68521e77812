use Rattle.std.proofs.Common.{Ok, Err}
use Rattle.std.proofs.lemmas.Result.{err_from_is_err_and}
use Rattle.dx_funcs.specs.Judging.{tested}
use Rattle.dx_funcs.specs.Serving.{offered}
use Rattle.clio_steps.specs.declared.texts.Side.TheVariants.{First}
use Rattle.clio_judge.specs.Judging.{wanted_given}
use Rattle.clio_steps.specs.Steps.{Program, program, wanted}
use Rattle.clio_steps.proofs.Mappings.{mapping_fits}
use Rattle.clio_steps.proofs.Plans.{rules_fit}
use Rattle.clio_steps.proofs.SameExchange.{agreeing_widths}
use Rattle.clio_judge.proofs.SameVerdict.{same_verdict}
use Rattle.clio_judge.proofs.VerdictRuns.{a_verdict, given_widths, no_verdict, rows_stop, text_stops}
use Rattle.clio_judge.proofs.VerdictRuns.{given_stop, judged_after}
use Rattle.clio_judge.proofs.judging.judge_files.Goals as goal

pub returns-in_err-mapping : goal.returns-in_err-mapping
returns-in_err-mapping g c =
    let P : Program = program (offered c.args.host.now) (tested c.args.tests.now) g.M.Meaning.apply g.M.Meaning.passes in
    let p = err_from_is_err_and c.from_residual.result c.from_residual.ensures.1 in
    rw (p.1, p.2) (text_stops P c.in_err-mapping.field-0.0 _ _ c.in_err-mapping.ensures)

pub read_used_rows-requires-clause-listed : goal.read_used_rows-requires-clause-listed
read_used_rows-requires-clause-listed g c =
    let P : Program = program (offered c.args.host.now) (tested c.args.tests.now) g.M.Meaning.apply g.M.Meaning.passes in
    (mapping_fits P First c.in_ok-mapping.mapping _ _ c.in_ok-mapping.ensures).tested

pub returns-in_err-rows : goal.returns-in_err-rows
returns-in_err-rows g c =
    let P : Program = program (offered c.args.host.now) (tested c.args.tests.now) g.M.Meaning.apply g.M.Meaning.passes in
    let p = err_from_is_err_and c.from_residual-in_err-rows.result c.from_residual-in_err-rows.ensures.1 in
    let read = c.in_err-rows.ensures in
    rw (p.1, p.2) (rows_stop P c.in_ok-mapping.mapping c.in_err-rows.field-0.0 _ _ _ c.in_ok-mapping.ensures read.2)

pub returns-in_err-given : goal.returns-in_err-given
returns-in_err-given g c =
    let P : Program = program (offered c.args.host.now) (tested c.args.tests.now) g.M.Meaning.apply g.M.Meaning.passes in
    let p = err_from_is_err_and c.from_residual-in_err-given.result c.from_residual-in_err-given.ensures.1 in
    let M = c.in_ok-mapping.mapping in
    let read = c.in_ok-rows.ensures in
    rw (p.1, p.2)
    (given_stop P M read.2.0 c.in_ok-rows.bytes_left _ _ _ (mapping_fits P First M _ _ c.in_ok-mapping.ensures).source_names c.in_ok-mapping.ensures read.2.3
    c.in_err-given.field-0.0 _ c.in_err-given.ensures)

pub judge_rows-requires-clause-fits : goal.judge_rows-requires-clause-fits
judge_rows-requires-clause-fits g c =
    let P : Program = program (offered c.args.host.now) (tested c.args.tests.now) g.M.Meaning.apply g.M.Meaning.passes in
    rules_fit P c.in_ok-mapping.mapping (mapping_fits P First c.in_ok-mapping.mapping _ _ c.in_ok-mapping.ensures)

pub judge_rows-requires-clause-tables : goal.judge_rows-requires-clause-tables
judge_rows-requires-clause-tables g c =
    let read = c.in_ok-rows.ensures in
    record {
      rows_fit = agreeing_widths g.M.Meaning.passes (wanted c.in_ok-mapping.mapping) read.0 (c.in_ok-rows.rows, c.in_ok-rows.bytes_left) _ _ read.2;
      given_fits = given_widths (wanted_given ((c.in_ok-mapping.mapping, c.in_ok-rows.rows), c.in_ok-rows.bytes_left)) c.in_ok-given.given _ _ c.in_ok-given.ensures;
    }

pub returns-in_err-verdict : goal.returns-in_err-verdict
returns-in_err-verdict g c =
    let P : Program = program (offered c.args.host.now) (tested c.args.tests.now) g.M.Meaning.apply g.M.Meaning.passes in
    let p = err_from_is_err_and c.from_residual-in_err-verdict.result c.from_residual-in_err-verdict.ensures.1 in
    let M = c.in_ok-mapping.mapping in
    let read = c.in_ok-rows.ensures in
    let I = read.2.0 in
    let K = c.in_ok-given.given in
    let stop = c.in_err-verdict.field-0.0 in
    let gives = same_verdict g.M.Meaning.apply M read.0 I c.in_ok-rows.rows K read.1 read.2.1 (Err stop) c.in_err-verdict.ensures in
    rw (p.1, p.2)
    (judged_after P M I c.in_ok-rows.bytes_left _ _ _ (mapping_fits P First M _ _ c.in_ok-mapping.ensures).source_names c.in_ok-mapping.ensures read.2.3
    K (Err stop) _ c.in_ok-given.ensures (no_verdict P ((M, I), K) stop gives))

pub returns : goal.returns
returns g c =
    let P : Program = program (offered c.args.host.now) (tested c.args.tests.now) g.M.Meaning.apply g.M.Meaning.passes in
    let M = c.in_ok-mapping.mapping in
    let read = c.in_ok-rows.ensures in
    let I = read.2.0 in
    let K = c.in_ok-given.given in
    let v = c.in_ok-verdict.verdict in
    let gives = same_verdict g.M.Meaning.apply M read.0 I c.in_ok-rows.rows K read.1 read.2.1 (Ok v) c.in_ok-verdict.ensures in
    judged_after P M I c.in_ok-rows.bytes_left _ _ _ (mapping_fits P First M _ _ c.in_ok-mapping.ensures).source_names c.in_ok-mapping.ensures read.2.3
    K (Ok (M, v)) _ c.in_ok-given.ensures (a_verdict P ((M, I), K) v gives)
