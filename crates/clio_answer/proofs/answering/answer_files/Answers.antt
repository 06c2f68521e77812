use Rattle.std.proofs.lemmas.Result.{err_from_is_err_and}
use Rattle.dx_funcs.specs.Judging.{tested}
use Rattle.dx_funcs.specs.Serving.{offered}
use Rattle.clio_steps.specs.declared.texts.Side.TheVariants.{First}
use Rattle.clio_steps.specs.Steps.{Program, program, wanted}
use Rattle.clio_answer.proofs.AnswerFiles.{all_answered, no_answers, no_exchange, no_rows}
use Rattle.clio_answer.proofs.AnswerRuns.{mapping_stops, query_stops, target_widths}
use Rattle.clio_steps.proofs.Mappings.{mapping_fits}
use Rattle.clio_steps.proofs.Plans.{rules_fit}
use Rattle.clio_steps.proofs.SameExchange.{agreeing_widths}
use Rattle.clio_answer.proofs.answering.answer_files.Goals as goal

pub returns-in_err-mapping : goal.returns-in_err-mapping
returns-in_err-mapping g c =
    let P : Program = program (offered c.args.host.now) (tested c.args.tests.now) g.M.Meaning.apply g.M.Meaning.passes in
    let p = err_from_is_err_and c.from_residual.result c.from_residual.ensures.1 in
    rw (p.1, p.2) (mapping_stops P c.in_err-mapping.field-0.0 _ _ c.in_err-mapping.ensures)

pub returns-in_err-query : goal.returns-in_err-query
returns-in_err-query g c =
    let P : Program = program (offered c.args.host.now) (tested c.args.tests.now) g.M.Meaning.apply g.M.Meaning.passes in
    let p = err_from_is_err_and c.from_residual-in_err-query.result c.from_residual-in_err-query.ensures.1 in
    rw (p.1, p.2) (query_stops P c.in_ok-mapping.mapping c.in_err-query.field-0.0 _ _ _ c.in_ok-mapping.ensures c.in_err-query.ensures)

pub read_used_rows-requires-clause-listed : goal.read_used_rows-requires-clause-listed
read_used_rows-requires-clause-listed g c =
    let P : Program = program (offered c.args.host.now) (tested c.args.tests.now) g.M.Meaning.apply g.M.Meaning.passes in
    (mapping_fits P First c.in_ok-mapping.mapping _ _ c.in_ok-mapping.ensures).tested

pub returns-in_err-rows : goal.returns-in_err-rows
returns-in_err-rows g c =
    let P : Program = program (offered c.args.host.now) (tested c.args.tests.now) g.M.Meaning.apply g.M.Meaning.passes in
    let p = err_from_is_err_and c.from_residual-in_err-rows.result c.from_residual-in_err-rows.ensures.1 in
    rw (p.1, p.2)
    (no_rows P c.in_ok-mapping.mapping c.in_ok-query.query _ _ _ _ c.in_err-rows.field-0.0 c.in_ok-mapping.ensures c.in_ok-query.ensures c.in_err-rows.ensures)

pub exchange_rows-requires-clause-fits : goal.exchange_rows-requires-clause-fits
exchange_rows-requires-clause-fits g c =
    let P : Program = program (offered c.args.host.now) (tested c.args.tests.now) g.M.Meaning.apply g.M.Meaning.passes in
    rules_fit P c.in_ok-mapping.mapping (mapping_fits P First c.in_ok-mapping.mapping _ _ c.in_ok-mapping.ensures)

pub exchange_rows-requires-clause-rows : goal.exchange_rows-requires-clause-rows
exchange_rows-requires-clause-rows g c =
    let read = c.in_ok-rows.ensures in
    agreeing_widths g.M.Meaning.passes (wanted c.in_ok-mapping.mapping) read.0 (c.in_ok-rows.rows, c.in_ok-rows.field-0-1) _ _ read.2

pub returns-in_err-exchange : goal.returns-in_err-exchange
returns-in_err-exchange g c =
    let P : Program = program (offered c.args.host.now) (tested c.args.tests.now) g.M.Meaning.apply g.M.Meaning.passes in
    let p = err_from_is_err_and c.from_residual-in_err-exchange.result c.from_residual-in_err-exchange.ensures.1 in
    rw (p.1, p.2)
    (no_exchange P c.in_ok-mapping.mapping c.in_ok-query.query _ _ _ _ c.in_ok-rows.rows c.in_ok-rows.field-0-1 c.in_err-exchange.field-0.0
    c.in_ok-mapping.ensures c.in_ok-query.ensures c.in_ok-rows.ensures c.in_err-exchange.ensures)

pub list_answers-requires : goal.list_answers-requires
list_answers-requires g c =
    let P : Program = program (offered c.args.host.now) (tested c.args.tests.now) g.M.Meaning.apply g.M.Meaning.passes in
    target_widths P c.in_ok-mapping.mapping c.in_ok-query.query c.in_ok-rows.rows c.in_ok-exchange.exchange _ _ c.in_ok-query.ensures c.in_ok-exchange.ensures

pub returns-in_err-answers : goal.returns-in_err-answers
returns-in_err-answers g c =
    let P : Program = program (offered c.args.host.now) (tested c.args.tests.now) g.M.Meaning.apply g.M.Meaning.passes in
    let p = err_from_is_err_and c.from_residual-in_err-answers.result c.from_residual-in_err-answers.ensures.1 in
    rw (p.1, p.2)
    (no_answers P c.in_ok-mapping.mapping c.in_ok-query.query _ _ _ _ c.in_ok-rows.rows c.in_ok-rows.field-0-1 c.in_ok-exchange.exchange
    c.in_err-answers.field-0.0 c.in_ok-mapping.ensures c.in_ok-query.ensures c.in_ok-rows.ensures c.in_ok-exchange.ensures c.in_err-answers.ensures)

pub returns : goal.returns
returns g c =
    let P : Program = program (offered c.args.host.now) (tested c.args.tests.now) g.M.Meaning.apply g.M.Meaning.passes in
    all_answered P c.in_ok-mapping.mapping c.in_ok-query.query _ _ _ _ c.in_ok-rows.rows c.in_ok-rows.field-0-1 c.in_ok-exchange.exchange
    c.in_ok-answers.answers c.in_ok-mapping.ensures c.in_ok-query.ensures c.in_ok-rows.ensures c.in_ok-exchange.ensures c.in_ok-answers.ensures
