use Rattle.std.proofs.Common.{◌∙◌}
use Rattle.dx_funcs.specs.Serving.{offered}
use Rattle.dx_funcs.specs.Names.{conversion_name}
use Rattle.dx_rule_text.proofs.Printing.{printed_derived}
use Rattle.dx_rule_text.proofs.derived.push_derived.Goals as goal

pub returns : goal.returns
returns g c =
    printed_derived (conversion_name (offered c.args.host.now)) c.args.number c.args.derived.now c.as_str.result.now c.items.result.now _ _ _ _ _ _ _
    c.in_ok-push_variable.ensures c.in_ok-push_str.ensures.bytes c.in_ok-push_str-2.ensures.bytes c.in_ok-push_str-3.ensures.bytes c.in_ok-push_variables.ensures c.in_ok-push_str-4.ensures.bytes
    (c.as_str.ensures ∙ c.by_code.ensures.name) c.items.ensures
