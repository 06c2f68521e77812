use Rattle.std.proofs.Common.{◌≡◌, ◌∙◌, ap, sym, subst, length}
use Rattle.std.proofs.lemmas.Result.{IfOk-weaker}
use Rattle.dx_schema.specs.Names.{table_names_of}
use Rattle.dx_schema.specs.Tables.{model_tables}
use Rattle.dx_funcs.specs.Serving.{offered}
use Rattle.dx_script.specs.Fits.{FitsScript}
use Rattle.dx_script.specs.Rewritten.{rewritten_steps, unless_parts}
use Rattle.dx_script.specs.Laws.{RulesFit}
use Rattle.dx_script.proofs.Fitted.{length_map_below}
use Rattle.dx_script.proofs.BothFit.{generated_fit}
use Rattle.dx_script.proofs.RuleFacts.{names_fit, widths_fit}
use Rattle.dx_script.proofs.Uncovered.{rewritten_means_uncovered}
use Rattle.dx_scriptgen.proofs.Whole.{agree_in_widths, listed_script}
use Rattle.dx_scriptgen.proofs.generate.rewritten_script.Goals as goal

pub script_of-requires-clause-rules : goal.script_of-requires-clause-rules
script_of-requires-clause-rules g c = λ d m. record { fits = c.requires.rules d m; listed = c.requires.listed d m }

pub script_of-requires-clause-one : goal.script_of-requires-clause-one
script_of-requires-clause-one g c = ap length c.in_ok-parts.ensures ∙ length_map_below (unless_parts c.args.rules.now) (length c.args.rules.now)

pub all_parts-requires-clause-widths : goal.all_parts-requires-clause-widths
all_parts-requires-clause-widths g c = agree_in_widths (model_tables c.args.source.now) c.args.target.now c.args.rules.now c.tables-targets.ensures.facts c.requires.rules

pub returns-clause-steps : goal.returns-clause-steps
returns-clause-steps g c =
    IfOk-weaker c.script_of.result _ _
    (λ s e. listed_script (table_names_of c.args.source.now) (table_names_of c.args.target.now) (offered c.args.host.now) (unless_parts c.args.rules.now) c.in_ok-parts.parts.items c.args.rules.now s.steps c.in_ok-parts.ensures e)
    c.script_of.ensures

pub returns-clause-fits : goal.returns-clause-fits
returns-clause-fits g c =
    let S = table_names_of c.args.source.now in
    let T = table_names_of c.args.target.now in
    let list = offered c.args.host.now in
    let R = c.args.rules.now in
    let good : RulesFit c.args.source.now c.args.target.now list R = record {
      source_tables = c.tables-sources.ensures.facts;
      target_tables = c.tables-targets.ensures.facts;
      offer = c.args.host.now.offer;
      fit = c.requires.rules;
      listed = c.requires.listed;
    } in
    IfOk-weaker c.script_of.result _ _
    (λ s e. subst (FitsScript S T list) (sym (listed_script S T list (unless_parts c.args.rules.now) c.in_ok-parts.parts.items R s.steps c.in_ok-parts.ensures e)) (generated_fit S T list R (names_fit c.args.source.now c.args.target.now list R good)).1)
    c.script_of.ensures

pub returns-clause-means : goal.returns-clause-means
returns-clause-means g c =
    let S = table_names_of c.args.source.now in
    let T = table_names_of c.args.target.now in
    let list = offered c.args.host.now in
    let R = c.args.rules.now in
    let good : RulesFit c.args.source.now c.args.target.now list R = record {
      source_tables = c.tables-sources.ensures.facts;
      target_tables = c.tables-targets.ensures.facts;
      offer = c.args.host.now.offer;
      fit = c.requires.rules;
      listed = c.requires.listed;
    } in
    IfOk-weaker c.script_of.result _ _
    (λ s e I K rows i.
    let q : s.steps ≡ rewritten_steps S T list R = listed_script S T list (unless_parts c.args.rules.now) c.in_ok-parts.parts.items R s.steps c.in_ok-parts.ensures e in
    rw q (rewritten_means_uncovered S T g.M.Meaning.apply list R I rows K (names_fit c.args.source.now c.args.target.now list R good) (widths_fit c.args.source.now I i)))
    c.script_of.ensures
