use Rattle.std.proofs.Common.{◌∙◌}
use Rattle.std.proofs.lemmas.Result.{err_from_is_err_and}
use Rattle.dx_funcs.specs.Judging.{tested}
use Rattle.dx_funcs.specs.Serving.{offered}
use Rattle.dx_stages.proofs.Running.{ran_out}
use Rattle.clio_steps.specs.Steps.{program, text_stages}
use Rattle.clio_steps.proofs.Mappings.{stopped, passed, within}
use Rattle.clio_steps.proofs.texts.read_mapping.Goals as goal

pub returns-in_err-name : goal.returns-in_err-name
returns-in_err-name g c =
    let p = err_from_is_err_and c.from_residual.result c.from_residual.ensures.1 in
    rw (p.1, p.2) (ran_out (text_stages (program (offered c.args.host.now) (tested c.args.tests.now) g.M.Meaning.apply g.M.Meaning.passes) c.args.side) (tt {0}) _)

pub returns-in_err-text : goal.returns-in_err-text
returns-in_err-text g c =
    let p = err_from_is_err_and c.from_residual-in_err-text.result c.from_residual-in_err-text.ensures.1 in
    rw (p.1, p.2) (stopped (program (offered c.args.host.now) (tested c.args.tests.now) g.M.Meaning.apply g.M.Meaning.passes) c.args.side c.in_ok-name.name c.absent.result c.in_err-text.field-0.0 _ _
    (c.in_ok-name.ensures ∙ c.file.ensures) c.absent.ensures c.in_err-text.ensures)

pub accept_text-requires : goal.accept_text-requires
accept_text-requires g c = within c.in_ok-name.name c.absent.result c.in_ok-text.text c.items.result.now _ _ c.items.ensures c.in_ok-text.ensures

pub returns : goal.returns
returns g c =
    passed (program (offered c.args.host.now) (tested c.args.tests.now) g.M.Meaning.apply g.M.Meaning.passes) c.args.side c.in_ok-name.name c.absent.result c.in_ok-text.text c.items.result.now c.accept_text.result _ _
    (c.in_ok-name.ensures ∙ c.file.ensures) c.absent.ensures c.items.ensures c.in_ok-text.ensures c.accept_text.ensures
