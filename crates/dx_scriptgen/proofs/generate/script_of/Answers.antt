use Rattle.std.proofs.Common.{◌∙◌, ap}
use Rattle.std.specs.Prelude.{map}
use Rattle.dx_schema.specs.Names.{table_names_of}
use Rattle.dx_funcs.specs.Serving.{offered}
use Rattle.dx_script.specs.Generated.{has_parts}
use Rattle.dx_scriptgen.proofs.Whole.{whole_is}
use Rattle.dx_scriptgen.proofs.generate.script_of.Goals as goal

pub push_matches-requires-clause-rules : goal.push_matches-requires-clause-rules
push_matches-requires-clause-rules g c = λ d m.
    let k = c.requires.rules d m in
    record { rule = k.fits.rule; premise = k.fits.premise; listed = k.listed }

pub push_all_inserts-requires-clause-rules : goal.push_all_inserts-requires-clause-rules
push_all_inserts-requires-clause-rules g c = λ d m.
    let k = c.requires.rules d m in
    record { rule = k.fits.rule; conclusion = k.fits.conclusion }

pub returns : goal.returns
returns g c =
    whole_is (table_names_of c.args.source.now) (table_names_of c.args.target.now) (offered c.args.host.now) c.args.parts.items c.args.rules.now c.deref-2.result.now
    c.new-steps.result c.push_creates.new.steps c.push_matches.new.steps c.push_keeps.new.steps c.push_all_inserts.new.steps
    c.new-steps.ensures c.in_ok-push_creates.ensures c.in_ok-push_matches.ensures
    (c.deref-2.ensures.value ∙ (c.in_ok-kept.ensures ∙ ap (map has_parts) c.deref.ensures.value)) c.requires.one c.in_ok-push_keeps.ensures c.in_ok-push_all_inserts.ensures
