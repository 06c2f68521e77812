use Rattle.std.proofs.lemmas.Result.{err_from_is_err_and}
use Rattle.dx_stages.proofs.Running.{ran_out}
use Rattle.clio_answer.specs.Answering.{query_over}
use Rattle.clio_answer.proofs.Queried.{query_passed, query_stopped, query_within}
use Rattle.clio_answer.proofs.answering.read_posed.Goals as goal

pub returns-in_err-name : goal.returns-in_err-name
returns-in_err-name g c =
    let p = err_from_is_err_and c.from_residual.result c.from_residual.ensures.1 in
    rw (p.1, p.2) (ran_out (query_over c.args.mapping.now) c.args.mapping.now _)

pub returns-in_err-text : goal.returns-in_err-text
returns-in_err-text g c =
    let p = err_from_is_err_and c.from_residual-in_err-text.result c.from_residual-in_err-text.ensures.1 in
    rw (p.1, p.2) (query_stopped c.args.mapping.now c.in_ok-name.name c.in_err-text.field-0.0 _ _ c.in_ok-name.ensures c.in_err-text.ensures)

pub accept_query-requires : goal.accept_query-requires
accept_query-requires g c = query_within c.in_ok-name.name c.in_ok-text.text c.items.result.now _ _ c.items.ensures c.in_ok-text.ensures

pub returns : goal.returns
returns g c =
    query_passed c.args.mapping.now c.in_ok-name.name c.in_ok-text.text c.items.result.now c.accept_query.result _ _ c.in_ok-name.ensures c.items.ensures c.in_ok-text.ensures c.accept_query.ensures
