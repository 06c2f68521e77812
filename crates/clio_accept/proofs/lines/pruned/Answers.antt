use Rattle.std.proofs.Common.{◌≤◌, length, arith}
use Rattle.dx_stages.specs.Running.{Answers}
use Rattle.dx_stages.proofs.Running.{as_error}
use Rattle.clio_accept.specs.declared.fault.AcceptFault.TheVariants.{Memory}
use Rattle.clio_accept.specs.Mapping.{frozen_refusal}
use Rattle.clio_accept.specs.Accepting.{leaving}
use Rattle.clio_accept.proofs.LineRules.{count_stops, frozen_stops, rules_left}
use Rattle.clio_accept.proofs.lines.pruned.Goals as goal

pub prune-requires-clause-fits : goal.prune-requires-clause-fits
prune-requires-clause-fits c = c.requires

pub prune-requires-clause-few : goal.prune-requires-clause-few
prune-requires-clause-few c = omega (arith, c.len.ensures, c.if-len-gt-RULES.false)

pub prune-requires-clause-limit : goal.prune-requires-clause-limit
prune-requires-clause-limit c = omega arith

pub returns-then-len-gt-RULES : goal.returns-then-len-gt-RULES
returns-then-len-gt-RULES c = count_stops c.args.rules.items (omega (arith, c.len.ensures, c.if-len-gt-RULES.true))

pub returns-in_err-left : goal.returns-in_err-left
returns-in_err-left c =
    let fault = c.in_err-left.field-0.0 in
    as_error _ (frozen_refusal fault) (Answers Memory leaving c.args.rules.items) c.from_residual.ensures.1
    (frozen_stops c.args.rules.items fault (omega (arith, c.len.ensures, c.if-len-gt-RULES.false)) c.in_err-left.ensures.refused)

pub returns : goal.returns
returns c =
    let few : length c.args.rules.items ≤ 256 = omega (arith, c.len.ensures, c.if-len-gt-RULES.false) in
    rw c.from_vec.ensures (rules_left c.args.rules.items c.in_ok-left.left.items few c.in_ok-left.ensures.within c.in_ok-left.ensures.left)
