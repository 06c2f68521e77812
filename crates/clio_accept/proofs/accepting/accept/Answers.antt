use Rattle.std.proofs.Common.{arith}
use Rattle.dx_funcs.specs.Judging.{tested}
use Rattle.dx_funcs.specs.Serving.{offered}
use Rattle.dx_stages.specs.Running.{Answers}
use Rattle.dx_stages.proofs.Running.{answers_next, as_error}
use Rattle.clio_accept.specs.declared.fault.AcceptFault.TheVariants.{Memory}
use Rattle.clio_accept.specs.Mapping.{text_refusal}
use Rattle.clio_accept.specs.Accepting.{accepting, accepting_said, said_by}
use Rattle.clio_accept.proofs.Refused.{by_text}
use Rattle.dx_tgd_text.proofs.Written.{texts_have_whole_rules}
use Rattle.clio_accept.proofs.Few.{few_rules}
use Rattle.clio_accept.proofs.accepting.accept.Goals as goal

pub returns-in_err-said : goal.returns-in_err-said
returns-in_err-said g c =
    let list = offered c.args.host.now in
    let tests = tested c.args.tests.now in
    let fault = c.in_err-said.field-0.0 in
    as_error _ (text_refusal fault) (Answers Memory (accepting list tests) c.args.text.now) c.from_residual.ensures.1 (by_text list tests c.args.text.now fault c.in_err-said.ensures.fault)

pub accept_said-requires : goal.accept_said-requires
accept_said-requires g c =
    let few = few_rules c.args.text.now c.in_ok-said.said c.requires c.in_ok-said.ensures.mapping in
    let rules = texts_have_whole_rules c.args.text.now c.in_ok-said.said c.in_ok-said.ensures.mapping in
    record {
      source = few.0;
      target = few.1;
      whole = λ r m. (rules r m).0;
      narrow = λ r m. let small = (rules r m).1 in omega (arith, small, c.requires);
    }

pub returns : goal.returns
returns g c =
    let list = offered c.args.host.now in
    let tests = tested c.args.tests.now in
    answers_next Memory said_by (accepting_said list tests) c.args.text.now c.in_ok-said.said _ (λ w. c.in_ok-said.ensures.mapping) c.accept_said.ensures
