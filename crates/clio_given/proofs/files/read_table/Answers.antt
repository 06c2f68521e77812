use Rattle.std.proofs.Common.{◌∙◌, ap}
use Rattle.std.proofs.lemmas.Result.{err_from_is_err_and}
use Rattle.dx_stages.proofs.Running.{ran_out}
use Rattle.clio_given.specs.Given.{given_name, given_reading}
use Rattle.clio_given.specs.Reading.{read_of, shown_result}
use Rattle.clio_given.proofs.Runs.{passed, stopped}
use Rattle.clio_given.proofs.files.read_table.Goals as goal

pub returns-in_err-name-clause-read : goal.returns-in_err-name-clause-read
returns-in_err-name-clause-read g c =
    let p = err_from_is_err_and c.from_residual.result c.from_residual.ensures.1 in
    rw (p.1, p.2) (ran_out (given_reading c.args.schema.now c.args.table) (read_of c.args.before) _)

pub returns-in_err-copy-clause-read : goal.returns-in_err-copy-clause-read
returns-in_err-copy-clause-read g c =
    let p = err_from_is_err_and c.from_residual-in_err-copy.result c.from_residual-in_err-copy.ensures.1 in
    rw (p.1, p.2) (ran_out (given_reading c.args.schema.now c.args.table) (read_of c.args.before) _)

pub returns-in_err-copy-2-clause-read : goal.returns-in_err-copy-2-clause-read
returns-in_err-copy-2-clause-read g c =
    let p = err_from_is_err_and c.from_residual-in_err-copy-2.result c.from_residual-in_err-copy-2.ensures.1 in
    rw (p.1, p.2) (ran_out (given_reading c.args.schema.now c.args.table) (read_of c.args.before) _)

pub returns-in_err-bytes-clause-read : goal.returns-in_err-bytes-clause-read
returns-in_err-bytes-clause-read g c =
    let p = err_from_is_err_and c.from_residual-in_err-bytes.result c.from_residual-in_err-bytes.ensures.1 in
    rw (p.1, p.2) (stopped c.args.schema.now c.args.table c.in_ok-copy-2.field-0 c.in_ok-copy.field-0 c.too_many_bytes.result (read_of c.args.before) _ _
    (c.in_ok-copy-2.ensures ∙ c.in_ok-name.ensures ∙ ap given_name c.name.ensures) (c.in_ok-copy.ensures ∙ c.in_ok-name.ensures ∙ ap given_name c.name.ensures)
    c.too_many_bytes.ensures c.in_err-bytes.field-0.0 c.in_err-bytes.ensures)

pub returns-clause-read : goal.returns-clause-read
returns-clause-read g c =
    passed c.args.schema.now c.args.table c.in_ok-copy-2.field-0 c.in_ok-copy.field-0 c.too_many_bytes.result (read_of c.args.before) _ _
    (c.in_ok-copy-2.ensures ∙ c.in_ok-name.ensures ∙ ap given_name c.name.ensures) (c.in_ok-copy.ensures ∙ c.in_ok-name.ensures ∙ ap given_name c.name.ensures)
    c.too_many_bytes.ensures c.in_ok-bytes.bytes c.items.result.now (shown_result c.load_given.result) c.items.ensures c.in_ok-bytes.ensures c.load_given.ensures.read
