use Rattle.std.proofs.Common.{Ok, Err}
use Rattle.std.proofs.lemmas.Result.{err_from_is_err_and}
use Rattle.dx_funcs.specs.Judging.{tested}
use Rattle.dx_funcs.specs.Serving.{offered}
use Rattle.clio_source.proofs.Left.{ran_first}
use Rattle.clio_ending.specs.Ending.{source_refusal}
use Rattle.clio_steps.specs.declared.texts.Side.TheVariants.{First}
use Rattle.clio_steps.specs.Steps.{Program, program, wanted}
use Rattle.clio_steps.proofs.Mappings.{mapping_fits}
use Rattle.clio_steps.proofs.Plans.{answered, mapping_stops, rows_stop, rules_fit, target_made, target_stops}
use Rattle.clio_steps.proofs.SameExchange.{agreeing_widths, same_exchange}
use Rattle.clio_steps.proofs.exchanging.exchange_files.Goals as goal

pub returns-in_err-mapping : goal.returns-in_err-mapping
returns-in_err-mapping g c =
    let P : Program = program (offered c.args.host.now) (tested c.args.tests.now) g.M.Meaning.apply g.M.Meaning.passes in
    let p = err_from_is_err_and c.from_residual.result c.from_residual.ensures.1 in
    rw (p.1, p.2) (mapping_stops P c.args.mode c.in_err-mapping.field-0.0 _ _ c.in_err-mapping.ensures)

pub returns-in_err-rows : goal.returns-in_err-rows
returns-in_err-rows g c =
    let P : Program = program (offered c.args.host.now) (tested c.args.tests.now) g.M.Meaning.apply g.M.Meaning.passes in
    let p = err_from_is_err_and c.from_residual-in_err-rows.result c.from_residual-in_err-rows.ensures.1 in
    let read = c.in_err-rows.ensures in
    let stop = c.in_err-rows.field-0.0 in
    let M = c.in_ok-mapping.mapping in
    rw (p.1, p.2) (rows_stop P c.args.mode M stop _ _ _ c.in_ok-mapping.ensures (ran_first source_refusal g.M.Meaning.passes (wanted M) (Err stop) _ _ read.2))

pub read_used_rows-requires-clause-listed : goal.read_used_rows-requires-clause-listed
read_used_rows-requires-clause-listed g c =
    let P : Program = program (offered c.args.host.now) (tested c.args.tests.now) g.M.Meaning.apply g.M.Meaning.passes in
    (mapping_fits P First c.in_ok-mapping.mapping _ _ c.in_ok-mapping.ensures).tested

pub exchange_rows-requires-clause-fits : goal.exchange_rows-requires-clause-fits
exchange_rows-requires-clause-fits g c =
    let P : Program = program (offered c.args.host.now) (tested c.args.tests.now) g.M.Meaning.apply g.M.Meaning.passes in
    rules_fit P c.in_ok-mapping.mapping (mapping_fits P First c.in_ok-mapping.mapping _ _ c.in_ok-mapping.ensures)

pub exchange_rows-requires-clause-rows : goal.exchange_rows-requires-clause-rows
exchange_rows-requires-clause-rows g c =
    let read = c.in_ok-rows.ensures in
    agreeing_widths g.M.Meaning.passes (wanted c.in_ok-mapping.mapping) read.0 (c.in_ok-rows.rows, c.in_ok-rows.field-0-1) _ _ read.2

pub returns-in_err-exchange : goal.returns-in_err-exchange
returns-in_err-exchange g c =
    let P : Program = program (offered c.args.host.now) (tested c.args.tests.now) g.M.Meaning.apply g.M.Meaning.passes in
    let p = err_from_is_err_and c.from_residual-in_err-exchange.result c.from_residual-in_err-exchange.ensures.1 in
    let M = c.in_ok-mapping.mapping in
    let read = c.in_ok-rows.ensures in
    let I = read.2.0 in
    let source = ran_first source_refusal g.M.Meaning.passes (wanted M) (Ok (I, c.in_ok-rows.field-0-1)) _ _ read.2.3 in
    let stop = c.in_err-exchange.field-0.0 in
    let gives = same_exchange P c.args.mode M read.0 I c.in_ok-rows.rows (Err stop) read.1 read.2.1 c.in_err-exchange.ensures in
    rw (p.1, p.2) (answered P c.args.mode M I _ _ _ _ c.in_ok-mapping.ensures source (target_stops P c.args.mode (M, I) stop gives))

pub returns : goal.returns
returns g c =
    let P : Program = program (offered c.args.host.now) (tested c.args.tests.now) g.M.Meaning.apply g.M.Meaning.passes in
    let M = c.in_ok-mapping.mapping in
    let read = c.in_ok-rows.ensures in
    let I = read.2.0 in
    let source = ran_first source_refusal g.M.Meaning.passes (wanted M) (Ok (I, c.in_ok-rows.field-0-1)) _ _ read.2.3 in
    let e = c.in_ok-exchange.exchange in
    let gives = same_exchange P c.args.mode M read.0 I c.in_ok-rows.rows (Ok e) read.1 read.2.1 c.in_ok-exchange.ensures in
    answered P c.args.mode M I _ _ _ _ c.in_ok-mapping.ensures source (target_made P c.args.mode (M, I) e gives)
