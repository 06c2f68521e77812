use Rattle.std.proofs.Common.{◌∙◌, ◌++◌, ◌∷◌, [], ap}
use Rattle.std.proofs.lemmas.List.{get_or_default}
use Rattle.dx_base.proofs.Members.{item_in}
use Rattle.dx_model.specs.Covers.{rule_at}
use Rattle.dx_schema.specs.Names.{table_names_of}
use Rattle.dx_funcs.specs.Serving.{offered}
use Rattle.dx_script.specs.Generated.{match_step}
use Rattle.dx_scriptgen.proofs.Lists.{map_more}
use Rattle.dx_scriptgen.proofs.generate.push_matches.Goals as goal

pub match_step-requires : goal.match_step-requires
match_step-requires g c = c.requires.rules c.index-rules-number.result (item_in c.args.rules.now c.loop-number.number c.index-rules-number.result c.loop-number-test.true c.index-rules-number.is)

pub loop-number-preserved : goal.loop-number-preserved
loop-number-preserved g c =
    let n = c.loop-number.number in
    let R = c.args.rules.now in
    let d = c.index-rules-number.result in
    map_more (λ r. match_step (table_names_of c.args.source.now) (offered c.args.host.now) r (rule_at R r)) n c.args.steps.now c.loop-number.steps c.push.new.self c.loop-number.invariant
    (c.in_ok-push.ensures.ok
    ∙ ap (λ z. c.loop-number.steps ++ z ∷ []) (c.in_ok-match_step.ensures ∙ ap (match_step (table_names_of c.args.source.now) (offered c.args.host.now) n) (c.index-rules-number.is ∙ get_or_default R n d _ c.loop-number-test.true)))
