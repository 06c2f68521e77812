use Rattle.std.proofs.Common.{inr, refl, ◌∙◌}
use Rattle.std.proofs.lemmas.Result.{err_from_is_err_and}
use Rattle.dx_funcs.specs.Serving.{offered}
use Rattle.dx_funcs.specs.Names.{first_named}
use Rattle.dx_line_text.proofs.Calls.{call_unknown, call_width, call_by_args, call_refused, call_read}
use Rattle.dx_line_text.proofs.lines.read_call.Goals as goal

pub returns-in_default : goal.returns-in_default
returns-in_default g c =
    inr (call_unknown c.args.schema.now (first_named (offered c.args.host.now) c.args.called.name.now) c.args.called.place c.args.args.now c.in_default.ensures.found)

pub returns-then-conversion-args : goal.returns-then-conversion-args
returns-then-conversion-args g c =
    let found = c.in-Some.ensures.found in
    inr (call_width c.args.schema.now (first_named (offered c.args.host.now) c.args.called.name.now) c.in-Some.conversion.now c.args.called.place c.args.args.now found c.if-conversion-args.true)

pub returns-in_err-read_places : goal.returns-in_err-read_places
returns-in_err-read_places g c =
    let found = c.in-Some.ensures.found in
    let p = err_from_is_err_and c.from_residual.result c.from_residual.ensures.1 in
    rw (p.1, p.2) (call_refused c.args.schema.now (first_named (offered c.args.host.now) c.args.called.name.now) c.in-Some.conversion.now c.args.called.place c.args.args.now _ found c.if-conversion-args.false c.in_err-read_places.ensures)

pub returns : goal.returns
returns g c =
    let found = c.in-Some.ensures.found in (
      call_read c.args.schema.now (first_named (offered c.args.host.now) c.args.called.name.now) c.in-Some.conversion.now c.args.args.now c.in-Some.conversion.now.code c.in_ok-read_places.field-0 found refl c.in_ok-read_places.ensures.0,
      call_by_args c.args.schema.now (first_named (offered c.args.host.now) c.args.called.name.now) c.in-Some.conversion.now c.args.called.place c.args.args.now found c.if-conversion-args.false ∙ c.in_ok-read_places.ensures.1,
    )
