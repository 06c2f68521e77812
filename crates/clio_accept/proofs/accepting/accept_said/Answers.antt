use Rattle.dx_funcs.specs.Judging.{tested}
use Rattle.dx_funcs.specs.Serving.{offered}
use Rattle.dx_stages.specs.Running.{Answers}
use Rattle.dx_stages.proofs.Running.{as_error}
use Rattle.clio_accept.specs.declared.fault.AcceptFault.TheVariants.{Memory}
use Rattle.clio_accept.specs.Accepting.{accepting_said}
use Rattle.clio_accept.proofs.Refused.{by_mapping, by_name, by_source, by_target}
use Rattle.clio_accept.proofs.accepting.accept_said.Goals as goal

pub returns-in_err-source : goal.returns-in_err-source
returns-in_err-source g c =
    let list = offered c.args.host.now in
    let tests = tested c.args.tests.now in
    let fault = c.in_err-source.field-0.0 in
    as_error _ fault (Answers Memory (accepting_said list tests) c.args.said) c.from_residual.ensures.1 (by_source list tests c.args.said fault c.in_err-source.ensures.fault)

pub returns-in_err-target : goal.returns-in_err-target
returns-in_err-target g c =
    let list = offered c.args.host.now in
    let tests = tested c.args.tests.now in
    let fault = c.in_err-target.field-0.0 in
    as_error _ fault (Answers Memory (accepting_said list tests) c.args.said) c.from_residual-in_err-target.ensures.1
    (by_target list tests c.args.said fault c.in_ok-source.ensures.faultless c.in_err-target.ensures.fault)

pub returns-in-Some : goal.returns-in-Some
returns-in-Some g c =
    by_name (offered c.args.host.now) (tested c.args.tests.now) c.args.said _ c.in-Some.name c.in_ok-source.ensures.faultless c.in_ok-target.ensures.faultless c.in_ok-target.ensures.schema
    (rw c.in-Some.is at c.in_ok-name.ensures.some)

pub returns : goal.returns
returns g c =
    by_mapping (offered c.args.host.now) (tested c.args.tests.now) c.args.said c.in_ok-source.source c.in_ok-target.target _ c.in_ok-source.ensures.faultless c.in_ok-target.ensures.faultless
    c.in_ok-source.ensures.schema c.in_ok-target.ensures.schema (rw c.in_default.is at c.in_ok-name.ensures.none) (rw (c.items.ensures, c.items-2.ensures, c.items-3.ensures) at c.mapping_between.ensures)

pub source_of-requires : goal.source_of-requires
source_of-requires g c = c.requires.source

pub target_of-requires : goal.target_of-requires
target_of-requires g c = c.requires.target

pub mapping_between-requires : goal.mapping_between-requires
mapping_between-requires g c = record {
  source = rw c.in_ok-source.ensures.schema c.in_ok-source.ensures.faultless;
  target = rw c.in_ok-target.ensures.schema c.in_ok-target.ensures.faultless;
  whole = rw c.items-3.ensures c.requires.whole;
  narrow = rw c.items-3.ensures c.requires.narrow;
}
